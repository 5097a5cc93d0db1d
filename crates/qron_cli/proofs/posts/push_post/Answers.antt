use Rattle.std.proofs.Common.{◌≡◌, ◌/◌, length, ap, ◌∙◌, arith}
use Rattle.qron_cli.proofs.PostLemmas.{one_more}
use Rattle.qron_cli.proofs.posts.push_post.Goals as goal

pub returns-clause-first : goal.returns-clause-first
returns-clause-first g c = λ key same goes first.
    let before = c.args.posts.now.items in
    let count : c.len.result ≡ length before = omega (arith, c.len.ensures, c.args.posts.now.ok) in
    one_more _ key c.args.settings.now before _ _ c.in_ok-push.ensures.items c.requires.range.some_workers
    (ap (λ n. n / c.from.result) count ∙ ap (λ w. length before / w) c.from.ensures) same goes first
