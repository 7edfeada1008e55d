-- What a caller of `read_form` needs, and no contract cites: an entry that was looked up has the prefix of the key.
use Rattle.std.specs.Prelude.{◌≡◌, refl, ℕ, Bool, true, false, ◌==◌}
use Rattle.std.proofs.Common.{arith}
use Rattle.x86_address.specs.Bytes.{bit}
use Rattle.vex_rows.specs.declared.entry.Entry.{Entry}
use Rattle.vex_rows.specs.declared.key.Map.{Map}
use Rattle.vex_rows.specs.declared.key.Map.TheVariants.{Map0F, Map0F38, Map0F3A}
use Rattle.vex_rows.specs.declared.key.Pp.{Pp}
use Rattle.vex_rows.specs.declared.key.Pp.TheVariants.{Plain, Prefix66, PrefixF3, PrefixF2}
use Rattle.vex_rows.specs.declared.key.Prefix.{Prefix}
use Rattle.vex_rows.specs.Rules.{has_key, map_number, pp_number}
use Rattle.vex_rows.specs.Table.Lemmas.{from-has_key}
use Rattle.vex_forms.specs.Fields.{fields_of}
use Rattle.vex_forms.specs.Reads.{HasPrefix}

same_map : (a b : Map) → map_number a ≡ map_number b → a ≡ b
same_map Map0F Map0F e = refl
same_map Map0F38 Map0F38 e = refl
same_map Map0F3A Map0F3A e = refl
same_map _ _ e = absurd (omega arith)

same_pp : (a b : Pp) → pp_number a ≡ pp_number b → a ≡ b
same_pp Plain Plain e = refl
same_pp Prefix66 Prefix66 e = refl
same_pp PrefixF3 PrefixF3 e = refl
same_pp PrefixF2 PrefixF2 e = refl
same_pp _ _ e = absurd (omega arith)

bit_again : (l : Bool) → (bit l == 1) ≡ l
bit_again true = refl
bit_again false = refl

-- an entry that has the key of a prefix and an opcode byte is one that the prefix chooses
pub has_prefix : (entry : Entry) (prefix : Prefix) (byte : ℕ)
    → has_key entry (record { map = prefix.map; pp = prefix.pp; byte = byte; w = prefix.w; l = prefix.l }) ≡ true
    → HasPrefix entry (fields_of prefix)
has_prefix entry prefix byte h =
    let key = from-has_key entry _ h in
    record { map = same_map _ _ key.map; pp = same_pp _ _ key.pp; w = key.w; l = rw (bit_again prefix.l) key.l }
