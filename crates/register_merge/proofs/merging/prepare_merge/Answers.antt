use Rattle.std.proofs.Common.{◌∙◌}
use Rattle.omega_ring.specs.Views.{weight_value}
use Rattle.register_merge.proofs.MergedDrafts.{begun_open, drafted, drafted_weight, drafted_nonzero, drafted_divisors, drafted_small, sealed_merged, refused_not}
use Rattle.register_merge.proofs.merging.prepare_merge.Goals as goal

pub write_rows-requires-clause-open : goal.write_rows-requires-clause-open
write_rows-requires-clause-open c = begun_open c.args.one.now c.args.two.now c.begin_product.new.one c.begin_product.ensures c.facts.ensures.rows c.facts-2.ensures.rows

pub weigh-requires-clause-weight : goal.weigh-requires-clause-weight
weigh-requires-clause-weight c = drafted_weight c.args.one.now c.args.two.now c.write_rows.new.one (weight_value c.weight.result) (weight_value c.weight-2.result) (weight_value c.times-weight.result) (drafted c.args.one.now c.args.two.now c.begin_product.new.one c.write_rows.new.one c.begin_product.ensures c.write_rows.ensures) c.weight.ensures c.weight-2.ensures c.times-weight.ensures

pub seal-requires-clause-nonzero : goal.seal-requires-clause-nonzero
seal-requires-clause-nonzero c = drafted_nonzero c.args.one.now c.args.two.now c.weigh.new.self (c.weigh.ensures ∙ drafted c.args.one.now c.args.two.now c.begin_product.new.one c.write_rows.new.one c.begin_product.ensures c.write_rows.ensures) c.facts.ensures.kept c.facts-2.ensures.kept

pub seal-requires-clause-small : goal.seal-requires-clause-small
seal-requires-clause-small c = drafted_small c.args.one.now c.args.two.now c.weigh.new.self (c.weigh.ensures ∙ drafted c.args.one.now c.args.two.now c.begin_product.new.one c.write_rows.new.one c.begin_product.ensures c.write_rows.ensures) c.facts.ensures.kept c.facts-2.ensures.kept

pub seal-requires-clause-divisors : goal.seal-requires-clause-divisors
seal-requires-clause-divisors c = drafted_divisors c.args.one.now c.args.two.now c.weigh.new.self (c.weigh.ensures ∙ drafted c.args.one.now c.args.two.now c.begin_product.new.one c.write_rows.new.one c.begin_product.ensures c.write_rows.ensures) c.facts.ensures.kept c.facts-2.ensures.kept

pub unreachable-requires : goal.unreachable-requires
unreachable-requires c = refused_not c.args.one.now c.args.two.now c.weigh.new.self c.seal.new.self c.in_default.field-0.size (c.weigh.ensures ∙ drafted c.args.one.now c.args.two.now c.begin_product.new.one c.write_rows.new.one c.begin_product.ensures c.write_rows.ensures) c.facts.ensures.rows c.requires.fits c.in_default.ensures

pub returns : goal.returns
returns c = sealed_merged c.args.one.now c.args.two.now c.weigh.new.self c.seal.new.self (c.weigh.ensures ∙ drafted c.args.one.now c.args.two.now c.begin_product.new.one c.write_rows.new.one c.begin_product.ensures c.write_rows.ensures) c.facts.ensures.rows c.in-Ok.ensures
