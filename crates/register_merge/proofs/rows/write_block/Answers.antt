use Rattle.std.proofs.Common.{◌+◌, ◌*◌, ◌<◌, length, arith}
use Rattle.omega_ring.specs.Views.{omega_value}
use Rattle.register_merge.proofs.WrittenRows.{read_within, factor_within, row_fits, block_more}
use Rattle.register_merge.proofs.rows.write_block.Goals as goal

pub product-z-requires-clause-left : goal.product-z-requires-clause-left
product-z-requires-clause-left c = read_within (length c.args.one.now.value.list * c.args.high + c.loop-low.low) c.args.two.now.value.list c.args.one.now c.loop-low.one (omega_value c.coefficient.result) c.loop-low.low c.loop-low.invariant c.facts-2.ensures.kept c.coefficient.ensures

pub product-z-requires-clause-right : goal.product-z-requires-clause-right
product-z-requires-clause-right c = factor_within c.args.two.now.value (omega_value c.coefficient-factor.result) c.args.high c.facts.ensures.kept c.coefficient-factor.ensures

pub overflow_mul-count : goal.overflow_mul-count
overflow_mul-count c =
    let e = c.row_count-count.ensures.rows in let t = c.loop-low-test.true in
    let l : c.loop-low.low < length c.args.one.now.value.list = omega (arith, e, t) in
    (row_fits c.args.one.now.value c.args.two.now.value c.args.high c.loop-low.low c.row_count-count.result c.facts-2.ensures.rows c.facts.ensures.rows c.requires.few c.requires.high l e).0

pub overflow_add-count : goal.overflow_add-count
overflow_add-count c =
    let e = c.row_count-count.ensures.rows in let t = c.loop-low-test.true in
    let l : c.loop-low.low < length c.args.one.now.value.list = omega (arith, e, t) in
    (row_fits c.args.one.now.value c.args.two.now.value c.args.high c.loop-low.low c.row_count-count.result c.facts-2.ensures.rows c.facts.ensures.rows c.requires.few c.requires.high l e).1

pub loop-low-preserved : goal.loop-low-preserved
loop-low-preserved c =
    let e = c.row_count-count.ensures.rows in let t = c.loop-low-test.true in
    let l : c.loop-low.low < length c.args.one.now.value.list = omega (arith, e, t) in
    block_more c.args.two.now.value.list c.args.one.now c.loop-low.one c.put.new.self (omega_value c.coefficient.result) (omega_value c.coefficient-factor.result) (omega_value c.product-z.result) c.args.high c.loop-low.low c.row_count-count.result
    c.loop-low.invariant l c.requires.high e c.coefficient.ensures c.coefficient-factor.ensures c.product-z.ensures.value c.put.ensures
