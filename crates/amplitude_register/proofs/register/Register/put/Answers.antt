use Rattle.amplitude_register.proofs.Fields.{put_is}
use Rattle.amplitude_register.proofs.register.Register.put.Goals as goal

pub returns : goal.returns
returns c = put_is c.args.self.now _ _ c.self.inside.stage _ c.self.inside.next.entries.items c.self.inside.next.rows c.args.row c.args.z c.self.view_is c.requires.open c.requires.row
