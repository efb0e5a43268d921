-- The part that an equation leaves, by its place.
use Rattle.std.proofs.Common.{◌≡◌, ℕ, ◌<◌, List, [], ◌∷◌, length, Bool, true, false, ◌&&◌, Option, Some, None, unwrap_or, refl, sym, ap, subst, ◌∙◌, arith}
use Rattle.std.specs.Prelude.{option_map, slice_get, IsSome, if◌then◌else◌}
use Rattle.std.specs.Bool.{OnFalse}
use Rattle.std.specs.Str.{bytes_eq}
use Rattle.std.proofs.lemmas.Option.{slice_get_within}
use Rattle.sap_terms.specs.Tree.{Tree, variable, public, fresh, apply, Trees, more, trees_of, list_of-trees_of}
use Rattle.sap_terms.specs.View.{tree}
use Rattle.sap_terms.specs.declared.term.Term.{Term}
use Rattle.sap_terms.specs.declared.term.Term.TheVariants.{Var, Public, Fresh, App}
use Rattle.sap_terms.specs.Equations.{Equations, app0, true_name, pair_name, fst_name, snd_name, sdec_name, adec_name, reveal_sign_name, get_message_name}
use Rattle.sap_parts.specs.Parts.{guard, first_part, second_part, opened, opened_by_key}
use Rattle.sap_rewrite.specs.code.Reduce.{or_else, by_part, by_check, inner_part, place, reduced}
use Rattle.sap_rewrite.proofs.Sound.{first_part-shape, second_part-shape, opened-shape, opened_by_key-shape}

-- there is no part, or it stands at the place
data Agrees (ts : Trees) : Option ℕ → Option Tree → Type 0 where
  neither : Agrees ts None None
  both : (k : ℕ) (r : Tree) → inner_part ts k ≡ Some r → Agrees ts (Some k) (Some r)

at_place : (ts : Trees) (k : ℕ) (o : Option Tree) → ((r : Tree) → o ≡ Some r → inner_part ts k ≡ Some r) → Agrees ts (option_map (λ _. k) o) o
at_place ts k None h = neither
at_place ts k (Some r) h = both k r (h r refl)

guarded : (ts : Trees) (b : Bool) (p : Option ℕ) (o : Option Tree) → Agrees ts p o → Agrees ts (guard b p) (guard b o)
guarded ts true p o a = a
guarded ts false p o a = neither

either : {ts : Trees} {p q : Option ℕ} {o u : Option Tree} → Agrees ts p o → Agrees ts q u → Agrees ts (or_else p q) (or_else o u)
either neither a = a
either (both k r h) a = both k r h

place_agrees : (e : Equations) (f : List ℕ) (ts : Trees) → Agrees ts (place e f ts) (by_part e f ts)
place_agrees e f ts =
    either (either (either (either
    (guarded ts (bytes_eq f fst_name) _ _ (at_place ts 0 (first_part pair_name ts) (λ r h. let s = first_part-shape pair_name ts r h in rw s.1 refl)))
    (guarded ts (bytes_eq f snd_name) _ _ (at_place ts 1 (second_part ts) (λ r h. let s = second_part-shape ts r h in rw s.1 refl))))
    (guarded ts (bytes_eq f sdec_name && e.symmetric) _ _ (at_place ts 0 (opened ts) (λ r h. let s = opened-shape ts r h in rw s.1 refl))))
    (guarded ts (bytes_eq f adec_name && e.asymmetric) _ _ (at_place ts 0 (opened_by_key ts) (λ r h. let s = opened_by_key-shape ts r h in rw s.1 refl))))
    (guarded ts (bytes_eq f get_message_name && e.revealing) _ _ (at_place ts 0 (first_part reveal_sign_name ts) (λ r h. let s = first_part-shape reveal_sign_name ts r h in rw s.1 refl)))

record PartAt (ts : Trees) (o : Option Tree) (k : ℕ) : Type 0 where
  part : Tree
  taken : inner_part ts k ≡ Some part
  left : o ≡ Some part

part_at : {ts : Trees} {p : Option ℕ} {o : Option Tree} → Agrees ts p o → (k : ℕ) → p ≡ Some k → PartAt ts o k
part_at neither k h = cc
part_at {ts} (both j r i) k h = let e : j ≡ k = cc in record { part = r; taken = subst (λ n. inner_part ts n ≡ Some r) e i; left = refl }

no_part_at : {ts : Trees} {p : Option ℕ} {o : Option Tree} → Agrees ts p o → p ≡ None → o ≡ None
no_part_at neither h = refl
no_part_at (both j r i) h = cc

-- at the place there is a part
pub part_there : (e : Equations) (f : List ℕ) (ts : Trees) (k : ℕ) → place e f ts ≡ Some k → IsSome (inner_part ts k)
part_there e f ts k h = let p = part_at (place_agrees e f ts) k h in rw p.taken refl

-- and it is what is left
pub part_left : (e : Equations) (f : List ℕ) (ts : Trees) (k : ℕ) (r : Tree) → place e f ts ≡ Some k → inner_part ts k ≡ Some r → r ≡ reduced e f ts
part_left e f ts k r h i =
    let p = part_at (place_agrees e f ts) k h in
    let same : p.part ≡ r = cc (p.taken, i) in
    sym same ∙ sym (ap (λ o. unwrap_or (or_else o (by_check e f ts)) (apply f ts)) p.left)

-- where there is no place, signatures alone are left
pub no_part : (e : Equations) (f : List ℕ) (ts : Trees) → place e f ts ≡ None → reduced e f ts ≡ unwrap_or (by_check e f ts) (apply f ts)
no_part e f ts h = ap (λ o. unwrap_or (or_else o (by_check e f ts)) (apply f ts)) (no_part_at (place_agrees e f ts) h)

-- a list whose first tree has a part
pub has_first : (ts : List Tree) (k : ℕ) → IsSome (inner_part (trees_of ts) k) → 0 < length ts
has_first [] k h = cc
has_first (t ∷ ts) k h = omega arith

-- the parts of a first tree that a symbol heads
pub part-of_apply : (ts us : List Tree) (f : List ℕ) (k : ℕ) → slice_get ts 0 ≡ Some (apply f (trees_of us)) → inner_part (trees_of ts) k ≡ slice_get us k
part-of_apply [] us f k h = cc
part-of_apply (t ∷ ts) us f k h =
    let e : t ≡ apply f (trees_of us) = cc in
    ap (λ v. inner_part (more v (trees_of ts)) k) e ∙ ap (λ vs. slice_get vs k) (list_of-trees_of us)

-- a first tree without a symbol has no part
pub only_apply : (ts : List Tree) (t : Term) (k : ℕ) (P : Type 0) → slice_get ts 0 ≡ Some (tree t) → IsSome (inner_part (trees_of ts) k) → ((f : List ℕ) (us : List Tree) → t ≡ App f us → ⊥) → P
only_apply [] t k P h s n = cc
only_apply (u ∷ us) (App f vs) k P h s n = absurd (n f vs refl)
only_apply (u ∷ us) (Var v) k P h s n =
    let e : u ≡ variable v = cc in
    let no : IsSome (inner_part (more (variable v) (trees_of us)) k) = subst (λ w. IsSome (inner_part (more w (trees_of us)) k)) e s in
    cc
only_apply (u ∷ us) (Public m) k P h s n =
    let e : u ≡ public m = cc in
    let no : IsSome (inner_part (more (public m) (trees_of us)) k) = subst (λ w. IsSome (inner_part (more w (trees_of us)) k)) e s in
    cc
only_apply (u ∷ us) (Fresh j) k P h s n =
    let e : u ≡ fresh j = cc in
    let no : IsSome (inner_part (more (fresh j) (trees_of us)) k) = subst (λ w. IsSome (inner_part (more w (trees_of us)) k)) e s in
    cc

-- what is left where there is no place and the signature does not hold, and where it does
pub left_as_is : (e : Equations) (f g : List ℕ) (ts : Trees) (b : Bool) → place e f ts ≡ None → (if b then Some (app0 true_name) else None) ≡ by_check e f ts → b ≡ false → g ≡ f → apply g ts ≡ reduced e f ts
left_as_is e f g ts b h s t same =
    let no : by_check e f ts ≡ None = sym s ∙ ap (λ c. if c then Some (app0 true_name) else None) t in
    ap (λ n. apply n ts) same ∙ sym (no_part e f ts h ∙ ap (λ o. unwrap_or o (apply f ts)) no)

-- the test of a left side, where there is no place
pub kept : (e : Equations) (f : List ℕ) (ts : Trees) (b : Bool) → place e f ts ≡ None → (if b then Some (app0 true_name) else None) ≡ by_check e f ts → OnFalse b (reduced e f ts ≡ apply f ts)
kept e f ts true h s = tt
kept e f ts false h s = sym (left_as_is e f f ts false h s refl refl)

pub left_true : (e : Equations) (f : List ℕ) (ts : Trees) (b : Bool) → place e f ts ≡ None → (if b then Some (app0 true_name) else None) ≡ by_check e f ts → b ≡ true → app0 true_name ≡ reduced e f ts
left_true e f ts b h s t =
    let there : by_check e f ts ≡ Some (app0 true_name) = sym s ∙ ap (λ c. if c then Some (app0 true_name) else None) t in
    sym (no_part e f ts h ∙ ap (λ o. unwrap_or o (apply f ts)) there)

pub ruleset part_laws = (has_first, part-of_apply, slice_get_within)
