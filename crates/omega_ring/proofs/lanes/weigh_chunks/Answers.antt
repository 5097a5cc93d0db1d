use Rattle.std.proofs.Common.{◌≡◌, ℕ, ◌+◌, ◌*◌, take, sym, ap, subst, ◌∙◌, arith}
use Rattle.state_model.specs.Coefficient.{Weight}
use Rattle.state_model.specs.CoefficientList.{total_weight}
use Rattle.omega_ring.specs.Lanes.{lane_values}
use Rattle.omega_ring.specs.LaneSteps.{AreSums}
use Rattle.omega_ring.proofs.LaneWeights.{total_chunk, take_small}
use Rattle.omega_ring.proofs.lanes.weigh_chunks.Goals as goal

pub loop-k-preserved : goal.loop-k-preserved
loop-k-preserved c =
    let vs = lane_values c.args.a.now c.args.b.now c.args.c.now c.args.d.now in
    let k = c.loop-k.k in
    let e : 8 * k + 8 ≡ 8 * (k + 1) = omega arith in
    subst (λ (w : Weight). AreSums w c.weigh_chunk-sums.result) (sym (total_chunk (8 * k) 8 vs) ∙ ap (λ (n : ℕ). total_weight (take n vs)) e) (c.weigh_chunk-sums.ensures (total_weight (take (8 * k) vs)) c.loop-k.invariant)

pub returns : goal.returns
returns c =
    let vs = lane_values c.args.a.now c.args.b.now c.args.c.now c.args.d.now in
    let k = c.loop-k.k in
    let e : 8 * k ≡ 8 * c.args.count = omega arith in
    c.total.ensures (total_weight (take (8 * k) vs)) c.loop-k.invariant (take_small (8 * k) vs c.requires.small) ∙ ap (λ (n : ℕ). total_weight (take n vs)) e
