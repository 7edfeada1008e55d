use Rattle.x86_permit.proofs.Permits.{least_settings}
use Rattle.x86_permit.proofs.laws.least_settings_permit.Goals as goal

pub returns : goal.returns
returns c = least_settings
