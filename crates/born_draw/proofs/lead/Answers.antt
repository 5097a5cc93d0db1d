use Rattle.born_draw.proofs.Leads.{stored_lead, lead_size}
use Rattle.born_draw.proofs.lead.Goals as goal

pub returns-clause-value : goal.returns-clause-value
returns-clause-value c = stored_lead c.args.word c.args.one c.args.whole c.ranges.word.fits c.requires.one c.requires.whole

pub returns-clause-size : goal.returns-clause-size
returns-clause-size c = rw (stored_lead c.args.word c.args.one c.args.whole c.ranges.word.fits c.requires.one c.requires.whole) (lead_size c.args.word c.args.one c.args.whole c.ranges.word.fits c.requires.one c.requires.whole)
