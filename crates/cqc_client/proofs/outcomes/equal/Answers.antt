use Rattle.std.proofs.Common.{rules, tests, ap, ◌∙◌, Bool, List}
use Rattle.std.specs.Bool.{beq}
use Rattle.std.specs.List.{count_by, filter_map, zip}
use Rattle.std.proofs.lemmas.Iterator.{YieldsList-from_slice, YieldsList-from_zip}
use Rattle.std.proofs.lemmas.Iterator.Consumers.{YieldsList-at, YieldsList-from_filter, YieldsList-from_filter_map, count_from_yields_List}
use Rattle.std.proofs.lemmas.List.Sums.{length-filter}
use Rattle.cqc_client.specs.Tally.{outcomes}
use Rattle.cqc_client.proofs.TallyLemmas.{told_at, told_at-outcomes}
use Rattle.cqc_client.proofs.outcomes.equal.Goals as goal

pub returns : goal.returns
returns c =
    let entries = c.args.entries.now in
    count_from_yields_List c.filter.result c.count.result c.count.ensures.ran
    (YieldsList-from_filter _ (λ bits. beq bits.0 bits.1)
    (YieldsList-at c.filter.ensures.source
    (YieldsList-from_zip
    (YieldsList-at c.zip.ensures.first
    (YieldsList-from_filter_map _ (told_at 0)
    (YieldsList-at c.filter_map-first.ensures.source (YieldsList-from_slice entries cc))
    c.filter_map-first.ensures.closure (λ x r q k. search (rules, tests))))
    (YieldsList-at c.zip.ensures.second
    (YieldsList-from_filter_map _ (told_at 1)
    (YieldsList-at c.filter_map-second.ensures.source (YieldsList-from_slice entries cc))
    c.filter_map-second.ensures.closure (λ x r q k. search (rules, tests))))))
    c.filter.ensures.closure (λ x r q k. search (rules, tests)))
    ∙ length-filter {X = Bool × Bool} (λ bits. beq bits.0 bits.1) (zip (filter_map (told_at 0) entries) (filter_map (told_at 1) entries))
    ∙ ap (λ (list : List Bool). count_by (λ bits. beq bits.0 bits.1) (zip list (filter_map (told_at 1) entries))) (told_at-outcomes 0 entries)
    ∙ ap (λ (list : List Bool). count_by (λ bits. beq bits.0 bits.1) (zip (outcomes 0 entries) list)) (told_at-outcomes 1 entries)
