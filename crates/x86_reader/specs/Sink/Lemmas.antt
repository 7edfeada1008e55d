-- Triples that a sink is given, one list after the other: lemmas for callers, that no contract cites.
use Rattle.std.proofs.Common.{◌≡◌, ◌∙◌, ap, sym, subst, List, [], ◌++◌, None, Some, arith, refl, append_assoc}
use Rattle.std.proofs.Common.{append-nil, length-append}
use Rattle.std.specs.Prelude.{Option, IsSome}
use Rattle.std.specs.Option.{option_map}
use Rattle.x86_reader.specs.Sink.{Triple, SinkState, Records}

module _ {D : Type 0} where
  appended-nil : (told : Option (List (Triple D))) → told ≡ option_map (λ before. before ++ []) told
  appended-nil None = refl
  appended-nil (Some triples) = ap Some (sym (append-nil triples))

  appended-twice : (told : Option (List (Triple D))) (xs ys : List (Triple D))
      → option_map (λ before. before ++ ys) (option_map (λ before. before ++ xs) told)
      ≡ option_map (λ before. before ++ (xs ++ ys)) told
  appended-twice None xs ys = refl
  appended-twice (Some triples) xs ys = ap Some (append_assoc triples xs ys)

  -- what is told after more told before
  told_before : (told : Option (List (Triple D))) (ys : List (Triple D))
      → IsSome (option_map (λ before. before ++ ys) told) → IsSome told
  told_before None ys told = told
  told_before (Some triples) ys told = refl

  -- a sink that was given nothing
  pub Records-none : (state : SinkState D) → Records state state []
  Records-none state = record {
    appended = λ told. appended-nil state.told;
    kept = λ told room. (told, omega arith);
  }

  -- some triples, and then more
  pub Records-trans : {old mid new : SinkState D} {xs ys : List (Triple D)} → Records old mid xs → Records mid new ys
      → Records old new (xs ++ ys)
  Records-trans {old} {mid} {new} {xs} {ys} first second = record {
    appended = λ told.
        let last = second.appended told in
        let before = first.appended (told_before mid.told ys
        (subst (λ (t : Option (List (Triple D))). IsSome t) last told)) in
        last ∙ ap (option_map (λ before. before ++ ys)) before ∙ appended-twice old.told xs ys;
    kept = λ told room.
        let one = first.kept told (omega (arith, length-append xs ys)) in
        let two = second.kept one.0 (omega (arith, length-append xs ys)) in
        (two.0, omega (arith, length-append xs ys));
  }
