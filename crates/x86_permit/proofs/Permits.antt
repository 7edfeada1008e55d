-- The laws of permission.
use Rattle.std.proofs.Common.{◌≡◌, true, false, refl, sym, ◌∙◌}
use Rattle.x86_opcode.specs.declared.condition.Condition.{Condition}
use Rattle.x86_opcode.specs.declared.condition.Condition.TheVariants.{ThreeDNow}
use Rattle.x86_opcode.specs.Condition.{opcode_condition}
use Rattle.x86_settings.specs.Bits.{all_bits}
use Rattle.x86_permit.specs.Permission.{condition_holds, permits}
use Rattle.x86_permit.specs.LeastSettings.{least}
use Rattle.x86_permit.specs.Laws.{LeastSettingsPermit, MoreSettingsPermitMore, AllSettingsPermitAll, VexOpcodesStay}
use Rattle.x86_permit.specs.LeastSettings.Lemmas.{permits-least}
use Rattle.x86_permit.specs.Permission.Lemmas.{vex_stays}
use Rattle.x86_permit.proofs.Bits.{all_set-set}

pub least_settings : LeastSettingsPermit
least_settings s opcode vex =
    let e : permits s false opcode ≡ _ = permits-least s opcode vex in (λ h. sym e ∙ h, λ h. e ∙ h)

pub more_settings : MoreSettingsPermitMore
more_settings s i opcode vex h =
    permits-least _ opcode vex ∙ all_set-set s i (least opcode) (sym (permits-least s opcode vex) ∙ h)

pub vex_opcodes : VexOpcodesStay
vex_opcodes s opcode vex = vex_stays s false opcode vex

-- where all bits are set, every condition holds
all-condition_holds : (c : Condition) → condition_holds all_bits c ≡ true
all-condition_holds ThreeDNow = refl
all-condition_holds _ = refl

pub all_settings : AllSettingsPermitAll
unfolding permits
all_settings false opcode = all-condition_holds (opcode_condition opcode)
all_settings true opcode = refl
