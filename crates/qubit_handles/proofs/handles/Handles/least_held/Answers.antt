use Rattle.std.proofs.Common.{◌≡◌, ℕ, ◌≤◌, IsSome, min, ap, sym, ◌∙◌}
use Rattle.std.specs.List.{reduce}
use Rattle.qubit_handles.specs.Handle.{ids_of, number_of}
use Rattle.qubit_handles.proofs.HandleLemmas.{listed_held}
use Rattle.qubit_handles.proofs.LeastLemmas.{least_is, no_least}
use Rattle.qubit_handles.proofs.handles.Handles.least_held.Goals as goal

-- the answer is the least of the application's ids
least : (c : goal.After-least_of) → c.least_of.result ≡ reduce min (ids_of c.args.self.now c.args.app)
least c = c.least_of.ensures ∙ ap (λ hs. reduce min (ids_of hs c.args.app)) (c.deref.ensures.0 ∙ c.self.view_is)

pub returns-clause-none : goal.returns-clause-none
returns-clause-none c = no_least (ids_of c.args.self.now c.args.app) c.least_of.result (least c)

pub returns-clause-held : goal.returns-clause-held
returns-clause-held c = least_is (ids_of c.args.self.now c.args.app) c.least_of.result (λ id. IsSome (number_of c.args.self.now c.args.app id)) (least c)
    (λ id listed below. sym (listed_held c.args.self.now c.args.app id) ∙ listed)

pub returns-clause-least : goal.returns-clause-least
returns-clause-least c = least_is (ids_of c.args.self.now c.args.app) c.least_of.result
    (λ id. (other : ℕ) → IsSome (number_of c.args.self.now c.args.app other) → id ≤ other) (least c)
    (λ id listed below other held. below other (listed_held c.args.self.now c.args.app other ∙ held))
