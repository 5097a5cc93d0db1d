use Rattle.std.proofs.Common.{ℕ, List, Option, refl, sym, subst, ◌∙◌, arith}
use Rattle.cqc_model.specs.Wire.{spell_message}
use Rattle.script.specs.Views.{sending_of}
use Rattle.cqc_client.specs.Talk.{Said}
use Rattle.cqc_client.specs.Stops.{Hears}
use Rattle.cqc_client.proofs.Sends.{only_sent, only_reads, only_prints, exchanged}
use Rattle.cqc_client.proofs.Faults.{hears_sends}
use Rattle.cqc_client.proofs.talking.exchange.Goals as goal

pub returns-in-Err-clause-said : goal.returns-in-Err-clause-said
returns-in-Err-clause-said g c =
    let o = only_sent c.in-Err.stop (sending_of c.args.message.now) (g.L.Source.left c.args.link.now) (g.L.Source.left c.send_message.new.link)
    (g.L.Sink.held c.args.link.now) (g.L.Sink.held c.send_message.new.link) (g.S.Sink.held c.args.out.now) c.args.budget.now
    c.in-Err.ensures.left c.in-Err.ensures.sent in
    (o.said, o.moved, omega (arith, o.nothing), o.exchanges)

pub returns-in-Err-clause-reads : goal.returns-in-Err-clause-reads
returns-in-Err-clause-reads g c = only_reads c.in-Err.stop _ _ _ _ _ (omega (arith, c.in-Err.ensures.read_faults)) c.in-Err.ensures.sent

pub returns-in-Err-clause-prints : goal.returns-in-Err-clause-prints
returns-in-Err-clause-prints g c = only_prints c.in-Err.stop _ _ _ _ _ (omega arith) c.in-Err.ensures.sent

pub returns-clause-said : goal.returns-clause-said
returns-clause-said g c =
    let t = c.hear.ensures.heard in
    let m = sending_of c.args.message.now in
    let left : Option (List ℕ) = g.L.Source.left c.hear.new.link in
    let said : Said = record { read = t.0; sent = spell_message m.head m.list; printed = t.1 } in (
      said,
      record { read = sym c.in_default.ensures.left ∙ t.2.read; sent = c.hear.ensures.held ∙ c.in_default.ensures.sent; printed = t.3 },
      t.2.paid,
      exchanged c.hear.result m said left c.hear.new.budget refl (subst (λ (a : ℕ). Hears c.hear.result a t.0 t.1 left c.hear.new.budget) c.app_of-app.ensures t.4),
    )

pub returns-clause-sends : goal.returns-clause-sends
returns-clause-sends g c =
    let t = c.hear.ensures.heard in
    hears_sends c.hear.result _ _ _ _ _ _ _ t.4 (omega (arith, c.in_default.ensures.sends, c.hear.ensures.write_faults))
