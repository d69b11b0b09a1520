-- What the definitions of a search read of a ladder with one band open.
use Rattle.trade.specs.declared.search.Open.{Open}
use Rattle.trade.specs.Inner.Searching.{Opening}

abbrev pub opening_of : Open → Opening
opening_of opened =
    record {
      zones = opened.zones;
      own = opened.own;
      band = opened.band;
      side = opened.side;
      weight = opened.weight;
      percents = opened.percents;
    }
