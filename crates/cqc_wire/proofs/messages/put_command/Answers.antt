use Rattle.std.proofs.Common.{◌≡◌, List, ℕ, [], ◌∷◌, ◌++◌, get_or, refl, subst}
use Rattle.std.specs.Int.{w16, to_be_bytes}
use Rattle.cqc_model.specs.Wire.{instr_number, options_of, spell_extra}
use Rattle.cqc_wire.specs.Room.{WasPut}
use Rattle.cqc_wire.proofs.Rooms.{put_on}
use Rattle.cqc_wire.proofs.messages.put_command.Goals as goal

pub returns : goal.returns
returns c =
    let command = c.args.command.now in
    let front : get_or c.to_be_bytes-qubit.result 0 0 ∷ get_or c.to_be_bytes-qubit.result 1 0 ∷ c.number_of.result ∷ c.options_byte-options.result ∷ []
    ≡ to_be_bytes w16 command.qubit ++ (instr_number command.instr ∷ options_of command.notify command.block ∷ []) =
    rw (c.to_be_bytes-qubit.ensures, c.number_of.ensures, c.options_byte-options.ensures) refl in
    subst (λ (x : List ℕ). WasPut c.args.out.now c.put_extra.new.out c.args.at (x ++ spell_extra command.instr) c.put_extra.result) front
    (put_on c.args.out.now _ _ c.args.at _ _ _ _ c.put-at.ensures c.put_extra.ensures)
