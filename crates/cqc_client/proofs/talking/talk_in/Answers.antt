use Rattle.std.proofs.Common.{◌≡◌, ℕ, ◌<◌, length, map, refl, sym, ap, subst, ◌∙◌, arith, length-append}
use Rattle.std.proofs.lemmas.List.{length-map}
use Rattle.script.specs.Views.{sending_of}
use Rattle.cqc_client.specs.declared.talking.Talked.{Talked}
use Rattle.cqc_client.specs.Talk.{EndsAs}
use Rattle.cqc_client.specs.Stops.{talked_at}
use Rattle.cqc_client.proofs.Items.{sending_at, sendable_at}
use Rattle.cqc_client.proofs.Moves.{moved_on, moved_none}
use Rattle.cqc_client.proofs.Progress.{Progress, and_then, nothing_said, begun, more, ends, stops_at}
use Rattle.cqc_client.proofs.talking.talk_in.Goals as goal

pub loop-message-init : goal.loop-message-init
loop-message-init g c = (
  nothing_said,
  begun _,
  moved_none _ _ _,
  omega arith,
  refl,
  c.requires.size,
  omega arith,
  omega arith,
  omega arith,
  g.met.L.Link.leads_nowhere _,
  g.met.S.Sink.writes_nowhere _,
)

pub exchange-requires-clause-sendable : goal.exchange-requires-clause-sendable
exchange-requires-clause-sendable g c =
    sendable_at c.args.script.now c.loop-message.message-index c.message-item.result c.message-item.result c.loop-message-test.true c.requires.sendable c.message-item.is

pub loop-message-preserved : goal.loop-message-preserved
loop-message-preserved g c =
    let kept = c.loop-message.invariant in
    let t = c.in_default.ensures.said in
    let m = sending_of c.message-item.result in
    let within : c.loop-message.message-index < length (map sending_of c.args.script.now) = omega (arith, length-map c.args.script.now sending_of) in
    let next = sending_at c.args.script.now c.loop-message.message-index c.message-item.result c.message-item.result c.loop-message-test.true c.message-item.is in (
      and_then kept.0 t.0,
      more _ _ kept.0 t.0 m kept.1 within next c.in_default.ensures.app (t.3).sent (t.3).hears,
      moved_on _ _ _ _ _ _ _ _ _ _ _ kept.2 t.1,
      omega (arith, kept.3, t.2, length-append (kept.0).read (t.0).read),
      omega (arith, kept.4),
      omega arith,
      omega (arith, kept.6, c.in_default.ensures.reads),
      omega (arith, kept.7, c.in_default.ensures.sends),
      omega (arith, kept.8, c.in_default.ensures.prints),
      g.met.L.Link.leads_on _ _ _ kept.9 c.in_default.ensures.led,
      g.met.S.Sink.writes_on _ _ _ kept.10 c.in_default.ensures.written,
    )

pub returns-in-Err-clause-said : goal.returns-in-Err-clause-said
returns-in-Err-clause-said g c =
    let kept = c.loop-message.invariant in
    let t = c.in-Err.ensures.said in
    let m = sending_of c.message-item.result in
    let within : c.loop-message.message-index < length (map sending_of c.args.script.now) = omega (arith, length-map c.args.script.now sending_of) in
    let next = sending_at c.args.script.now c.loop-message.message-index c.message-item.result c.message-item.result c.loop-message-test.true c.message-item.is in
    let is : talked_at c.in-Err.stop c.loop-message.message-index ≡ c.talked_at.result = ap (talked_at c.in-Err.stop) (sym kept.4) ∙ sym c.talked_at.ensures in (
      and_then kept.0 t.0,
      moved_on _ _ _ _ _ _ _ _ _ _ _ kept.2 t.1,
      omega (arith, kept.3, t.2, length-append (kept.0).read (t.0).read),
      subst (λ (a : Talked). EndsAs a (map sending_of c.args.script.now) (and_then kept.0 t.0) (g.L.Source.left c.exchange.new.link)) is
          (stops_at c.in-Err.stop _ _ kept.0 t.0 m _ c.exchange.new.budget kept.1 within next
          c.in-Err.ensures.app t.3 (omega (arith, kept.3, t.2, length-append (kept.0).read (t.0).read))),
    )

pub returns-clause-said : goal.returns-clause-said
returns-clause-said g c =
    let kept = c.loop-message.invariant in
    let size : length (map sending_of c.args.script.now) ≡ length c.args.script.now = length-map c.args.script.now sending_of in
    (kept.0, kept.2, omega (arith, kept.3), ends _ c.loop-message.messages kept.0 (omega (arith, kept.4, size)) (omega (arith, kept.4, size)) (subst (λ (n : ℕ). Progress (map sending_of c.args.script.now) n kept.0) (sym kept.4) kept.1))
