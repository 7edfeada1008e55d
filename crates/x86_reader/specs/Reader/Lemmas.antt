-- Lemmas for callers that are generic in the reader, and that no contract cites: steps of a reader, one after the
-- other.
use Rattle.std.proofs.Common.{◌≡◌, ℕ, ◌∙◌, ap, sym, List, [], ◌++◌, None, Some, arith, rules, refl, length-append}
use Rattle.std.proofs.Common.{append_assoc}
use Rattle.std.specs.Prelude.{Option}
use Rattle.std.specs.Io.KnownBytes.{prepend_known}
use Rattle.std.proofs.lemmas.List.Elements.{All-nil, All-append}
use Rattle.x86_reader.specs.Reader.{ReaderState, Passes, ChangesOnlyCount, IsByte}
use Rattle.x86_reader.specs.SliceReader.{StopsAtEnd}

prepend_known-twice : (xs ys : List ℕ) (known : Option (List ℕ))
    → prepend_known xs (prepend_known ys known) ≡ prepend_known (xs ++ ys) known
prepend_known-twice xs ys None = refl
prepend_known-twice xs ys (Some rest) = ap Some (sym (append_assoc xs ys rest))

prepend_known-nil : (known : Option (List ℕ)) → prepend_known [] known ≡ known
prepend_known-nil None = refl
prepend_known-nil (Some rest) = refl

-- past some bytes, and then past more
pub Passes-trans : {old mid new : ReaderState} {xs ys : List ℕ} → Passes old mid xs → Passes mid new ys
    → Passes old new (xs ++ ys)
Passes-trans {old} {mid} {new} {xs} {ys} first second = record {
  each = All-append IsByte xs ys first.each second.each;
  left = first.left ∙ ap (prepend_known xs) second.left ∙ prepend_known-twice xs ys new.left;
  total = omega (arith, length-append xs ys);
  since_mark = omega (arith, length-append xs ys);
}

-- a reader that has done nothing has taken no byte
pub Passes-none : (state : ReaderState) → Passes state state []
Passes-none state = record {
  each = All-nil IsByte;
  left = sym (prepend_known-nil state.left);
  total = omega arith;
  since_mark = omega arith;
}

-- a refusal takes no byte
pub Passes-refused : {old new : ReaderState} → ChangesOnlyCount old new → Passes old new []
Passes-refused {old} {new} kept = record {
  each = All-nil IsByte;
  left = sym kept.left ∙ sym (prepend_known-nil new.left);
  total = omega arith;
  since_mark = omega arith;
}

-- where a `U8Reader` refused a byte, it has none left
pub Stops-slice : StopsAtEnd
Stops-slice old new bytes stops = search rules
