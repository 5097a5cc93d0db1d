use Rattle.std.proofs.Common.{rules, tests, ap, ◌∙◌, Bool, List}
use Rattle.std.specs.List.{count_by, filter_map}
use Rattle.std.proofs.lemmas.Iterator.{YieldsList-from_slice}
use Rattle.std.proofs.lemmas.Iterator.Consumers.{YieldsList-at, YieldsList-from_filter, YieldsList-from_filter_map, count_from_yields_List}
use Rattle.std.proofs.lemmas.List.Sums.{length-filter}
use Rattle.cqc_client.proofs.TallyLemmas.{told_at, told_at-outcomes}
use Rattle.cqc_client.proofs.outcomes.ones.Goals as goal

pub returns : goal.returns
returns c =
    count_from_yields_List c.filter.result c.count.result c.count.ensures.ran
    (YieldsList-from_filter _ (λ bit. bit)
    (YieldsList-at c.filter.ensures.source
    (YieldsList-from_filter_map _ (told_at 0)
    (YieldsList-at c.filter_map-first.ensures.source (YieldsList-from_slice c.args.entries.now cc))
    c.filter_map-first.ensures.closure (λ x r q k. search (rules, tests))))
    c.filter.ensures.closure (λ x r q k. search (rules, tests)))
    ∙ length-filter {X = Bool} (λ bit. bit) (filter_map (told_at 0) c.args.entries.now)
    ∙ ap (λ (list : List Bool). count_by (λ bit. bit) list) (told_at-outcomes 0 c.args.entries.now)
