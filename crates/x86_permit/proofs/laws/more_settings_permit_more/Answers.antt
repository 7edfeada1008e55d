use Rattle.x86_permit.proofs.Permits.{more_settings}
use Rattle.x86_permit.proofs.laws.more_settings_permit_more.Goals as goal

pub returns : goal.returns
returns c = more_settings
