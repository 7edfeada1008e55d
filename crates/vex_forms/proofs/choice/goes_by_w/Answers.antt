-- Four forms go by W.
use Rattle.vex_forms.proofs.ByW.{one_told, none_told}
use Rattle.vex_forms.proofs.choice.goes_by_w.Goals as goal

pub returns-in-G_V_E : goal.returns-in-G_V_E
returns-in-G_V_E c = one_told c.args.form c.in-G_V_E.is

pub returns-in_default : goal.returns-in_default
returns-in_default c =
    none_told c.args.form c.in_default.not-G_V_E c.in_default.not-G_E_V c.in_default.not-G_E_Ib
    c.in_default.not-BMI1_F3
