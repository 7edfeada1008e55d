use Rattle.std.proofs.Common.{Ok, ap}
use Rattle.vex_asm.proofs.Assembling.{apart, one_spelling, refused, written_text}
use Rattle.vex_asm.proofs.assembler.assemble.Goals as goal

pub returns-in_err-spelling-clause-only : goal.returns-in_err-spelling-clause-only
returns-in_err-spelling-clause-only c = λ bytes h. absurd
    (refused c.recode_again.ensures.spells _ _ c.in_err-spelling.ensures bytes h)

pub returns-in_err-spelling-clause-again : goal.returns-in_err-spelling-clause-again
returns-in_err-spelling-clause-again c = λ m bytes h e canonical.
    absurd (refused c.recode_again.ensures.spells _ _ c.in_err-spelling.ensures bytes
    (written_text _ m bytes h e canonical))

pub returns-clause-only : goal.returns-clause-only
returns-clause-only c = λ bytes h. ap Ok
    (one_spelling _ _ _ (record {
      meaning = _;
      written = c.in_ok-spelling.ensures.written;
      canonical =
          c.in_ok-spelling.ensures.canonical;
    }) h)

pub returns-clause-again : goal.returns-clause-again
returns-clause-again c = λ m bytes h e canonical.
    ap Ok (one_spelling _ _ _ (record {
      meaning = _;
      written = c.in_ok-spelling.ensures.written;
      canonical =
          c.in_ok-spelling.ensures.canonical;
    }) (written_text _ m bytes h e canonical))

pub returns-clause-no_spelling : goal.returns-clause-no_spelling
returns-clause-no_spelling c = (
  λ e. cc,
  λ h. absurd (apart c.recode_again.ensures.spells _ _
      (record {
        meaning = _;
        written = c.in_ok-spelling.ensures.written;
        canonical =
            c.in_ok-spelling.ensures.canonical;
      }) h),
)
