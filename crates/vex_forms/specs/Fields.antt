use Rattle.std.specs.Prelude.{ℕ, Bool}
use Rattle.x86_address.specs.Bytes.{bit}
use Rattle.vex_rows.specs.declared.key.Map.{Map}
use Rattle.vex_rows.specs.declared.key.Pp.{Pp}
use Rattle.vex_rows.specs.declared.key.Prefix.{Prefix}

-- the fields of a prefix, those that stand inverted in its bytes put right (Intel SDM volume 2, sections 2.3.5 and
-- 2.3.6)
pub record Fields : Type 0 where
  pub map : Map
  pub pp : Pp
  pub w : Bool
  pub l : ℕ
  pub r : ℕ
  pub x : Bool
  pub b : Bool
  pub v : ℕ

-- the fields of a prefix that the code keeps
abbrev pub fields_of : Prefix → Fields
fields_of p = record {
  map = p.map;
  pp = p.pp;
  w = p.w;
  l = bit p.l;
  r = bit p.r;
  x = p.x;
  b = p.b;
  v = p.vvvv;
}
