use Rattle.x86_permit.proofs.Permits.{all_settings}
use Rattle.x86_permit.proofs.laws.all_settings_permit_all.Goals as goal

pub returns : goal.returns
returns c = all_settings
