-- Bytes of a run that were read up, and the whole run.
use Rattle.std.proofs.Common.{◌≡◌, ◌≤◌, ◌<◌, ℕ, zero, suc, List, [], ◌++◌, ◌+◌, length, take, drop, Option, Some, None, inl, inr, ◌⊎◌, refl, sym, ap, subst, ◌∙◌, arith}
use Rattle.std.specs.Prelude.{IsSomeAnd}
use Rattle.std.specs.FinMap as files
use Rattle.std.proofs.lemmas.Grind.{common_steps}
use Rattle.std.proofs.lemmas.List.{append-nil, take-append-drop, drop_all}
use Rattle.sap_run_texts.specs.declared.run.Kinds.{Kinds}
use Rattle.sap_run_texts.specs.declared.run.Run.{Run}
use Rattle.sap_tool.specs.Call.{Holds}
use Rattle.sap_outside.specs.Outside.{Files, piece_bytes}
use Rattle.sap_outside.specs.RunPieces.{most_run_bytes, IsReadUp, IsJoined, is_run, too_long, bad_head, bad_line, too_many_of_process, too_many_of_rules}
use Rattle.sap_refusals.specs.RunFaultTexts.{run_refusal_text}
use Rattle.sap_replay.specs.RunRefusals.{IsRunRefusedWith, no_run, illegal}
use Rattle.sap_outside.specs.declared.run_refusal.RunRefusal.TheVariants as refusal

pub short_or_long : (n most : ℕ) → (n ≤ most) ⊎ (most < n)
short_or_long zero most = inl (omega arith)
short_or_long (suc n) zero = inr (omega arith)
short_or_long (suc n) (suc most) = elim (short_or_long n most) [ inl h ↦ inl (omega (arith, h)) | inr h ↦ inr (omega (arith, h)) ]

-- bytes that were read up, and aren't too many, are all
pub all_read : (z y : List ℕ) → IsReadUp z y → length y ≤ most_run_bytes → z ≡ y
all_read z y up short = up.part ∙ ap (λ (x : List ℕ). y ++ x) (up.whole short) ∙ append-nil y

pub longer : (y left : List ℕ) (most : ℕ) → most < length y → most < length (y ++ left)
longer y left most h = grind (arith, common_steps)

-- that they are too many is why too many bytes are refused
refused_as_long : (k : Kinds) (Is : Run → List ℕ → Type 0) (z why : List ℕ) → most_run_bytes < length z → IsRunRefusedWith k Is z why → why ≡ run_refusal_text refusal.TooLong
refused_as_long k Is z _ long (no_run (too_long l)) = refl
refused_as_long k Is z _ long (no_run (bad_head l r)) = absurd (omega (arith, long, l))
refused_as_long k Is z _ long (no_run (bad_line l r)) = absurd (omega (arith, long, l))
refused_as_long k Is z _ long (no_run (too_many_of_process l h r)) = absurd (omega (arith, long, l))
refused_as_long k Is z _ long (no_run (too_many_of_rules l h r)) = absurd (omega (arith, long, l))
refused_as_long k Is z _ long (illegal (is_run l r) bad) = absurd (omega (arith, long, l))

-- what refuses a run refuses the bytes of it that were read up
pub read_up_refused : (k : Kinds) (Is : Run → List ℕ → Type 0) (z y why : List ℕ) → IsReadUp z y → IsRunRefusedWith k Is z why → IsRunRefusedWith k Is y why
read_up_refused k Is z y why up r = elim (short_or_long (length y) most_run_bytes) [
  | inl short ↦ subst (λ (x : List ℕ). IsRunRefusedWith k Is x why) (all_read z y up short) r
  | inr long ↦
      let more = subst (λ (x : List ℕ). most_run_bytes < length x) (sym up.part) (longer y up.left most_run_bytes long) in
      subst (λ (w : List ℕ). IsRunRefusedWith k Is y w) (sym (refused_as_long k Is z why more r)) (no_run (too_long long))
]

-- and the other way about
pub refused_by_read_up : (k : Kinds) (Is : Run → List ℕ → Type 0) (z y why : List ℕ) → IsReadUp z y → IsRunRefusedWith k Is y why
    → ((other : List ℕ) × IsRunRefusedWith k Is z other)
refused_by_read_up k Is z y why up r = elim (short_or_long (length y) most_run_bytes) [
  | inl short ↦ (why, subst (λ (x : List ℕ). IsRunRefusedWith k Is x why) (sym (all_read z y up short)) r)
  | inr long ↦ (_, no_run (too_long (subst (λ (x : List ℕ). most_run_bytes < length x) (sym up.part) (longer y up.left most_run_bytes long))))
]

-- the joined pieces of a run that is held are its bytes, read up
pub joined_part : (holds : Option Files) (name z y : List ℕ) → Holds holds name z → IsJoined holds name y → IsReadUp z y
joined_part None name z y held joined = absurd held
joined_part (Some all) name z y held joined = at (files.get all name) held joined where
  at : (o : Option (List ℕ)) → o ≡ Some z → IsSomeAnd o (λ (file : List ℕ). IsReadUp file y) → IsReadUp z y
  at None h k = absurd k
  at (Some other) h k = let e : other ≡ z = cc in subst (λ (x : List ℕ). IsReadUp x y) e k

-- so are the bytes of one that was fetched
dropped : (most : ℕ) (z : List ℕ) → length (take (most + 1) z) ≤ most → drop (most + 1) z ≡ []
dropped most z h = drop_all (most + 1) z (grind (arith, common_steps))

few : (most : ℕ) (z : List ℕ) → length (take (most + 1) z) ≤ most + piece_bytes
few most z = grind (arith, common_steps)

pub fetched_is_up : (z y : List ℕ) → y ≡ take (most_run_bytes + 1) z → IsReadUp z y
fetched_is_up z y is = subst (λ (x : List ℕ). IsReadUp z x) (sym is) (record {
  left = drop (most_run_bytes + 1) z;
  part = sym (take-append-drop (most_run_bytes + 1) z);
  whole = dropped most_run_bytes z;
  short = few most_run_bytes z;
})
