-- `options::delta::write_book` meets its contract: the contents, and then the rows class by class.
use native.Mathlib.Omega.{arith}
use Rattle.options.proofs.Outcome.{no_class, class_fits, class_written, book_written}
use Rattle.options.proofs.delta.write_book.Goals as goal

pub loop-class-init : goal.loop-class-init
loop-class-init c = no_class _ _ _ c.write_contents.ensures

pub write_class-end-requires : goal.write_class-end-requires
write_class-end-requires c =
    omega (arith, class_fits _ _ _ c.loop-class.invariant c.args.table.taken c.requires.own c.requires.fits c.loop-class-test.true)

pub loop-class-preserved : goal.loop-class-preserved
loop-class-preserved c =
    let fits = class_fits _ _ _ c.loop-class.invariant c.args.table.taken c.requires.own c.requires.fits c.loop-class-test.true in
    class_written _ _ _ c.loop-class.invariant c.loop-class-test.true fits c.write_class-end.ensures.value c.write_class-end.ensures.out_after

pub returns : goal.returns
returns c = book_written _ _ _ c.loop-class.invariant c.args.table.taken c.requires.own c.loop-class-test.false c.loop-class.auto.class-index-end
