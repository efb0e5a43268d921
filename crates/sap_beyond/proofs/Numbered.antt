-- Numbered places and first deep ones are those that are found in the shape.
use Rattle.std.proofs.Common.{◌≡◌, ◌<◌, ◌≤◌, ℕ, ◌+◌, List, [], length, Some, sym, ap, subst, ◌∙◌, arith}
use Rattle.std.specs.Prelude.{slice_get}
use Rattle.sap_terms.proofs.PlainLaws.Numbers.{same_number}
use Rattle.sap_process.specs.Proc.{node_count, level_count}
use Rattle.sap_macro.specs.Expansion.{expansion}
use Rattle.sap_macro.specs.Written.{Written, Definition}
use Rattle.sap_beyond.specs.Numbered.{IsFirstDeep, IsNumbered, paths}
use Rattle.sap_beyond.specs.code.Shapes.{Shape, depth, paths_from, place_count, shape}
use Rattle.sap_beyond.specs.code.Steps.{IsFirstLong, IsFound}
use Rattle.sap_beyond.specs.declared.beyond.By.TheVariants.{Number, Digits}
use Rattle.sap_beyond.proofs.Found.{first_at, none_found, none_got, none_long, some_found}
use Rattle.sap_beyond.proofs.Listed.{levels_are, nodes_are, paths_are}
use Rattle.sap_beyond.proofs.SameShape.{expansions_have_one}

-- it has this shape, whatever names the file has
abbrev pub HasShape : List Definition → Written → Shape → Type 0
HasShape ds p s = (identifiers : List (List ℕ)) → shape (expansion ds identifiers p).process ≡ s

pub own_shape : (ds : List Definition) (p : Written) (identifiers : List (List ℕ)) → HasShape ds p (shape (expansion ds identifiers p).process)
own_shape ds p identifiers other = expansions_have_one ds p other identifiers

module _ (ds : List Definition) (p : Written) (s : Shape) (h : HasShape ds p s) where
  paths_same : (identifiers : List (List ℕ)) → paths (expansion ds identifiers p).process ≡ paths_from [] s
  paths_same identifiers = paths_are (expansion ds identifiers p).process ∙ ap (paths_from []) (h identifiers)

  pub is_numbered : (k : ℕ) (path : List ℕ) → slice_get (paths_from [] s) k ≡ Some path → IsNumbered ds p k path
  is_numbered k path e identifiers = ap (λ (xs : List (List ℕ)). slice_get xs k) (paths_same identifiers) ∙ e

  pub numbered_is : (k : ℕ) (path : List ℕ) → IsNumbered ds p k path → slice_get (paths_from [] s) k ≡ Some path
  numbered_is k path e = sym (ap (λ (xs : List (List ℕ)). slice_get xs k) (paths_same [])) ∙ e []

  from_root : (n : ℕ) → length {A = ℕ} [] + n ≡ n
  from_root n = omega arith

  pub is_deep : (n : ℕ) (path : List ℕ) → IsFound Digits [] s n path → IsFirstDeep ds p n path
  is_deep n path e =
      let r = first_at (subst (λ k. IsFirstLong k (paths_from [] s) path) (from_root n) e) in
      record {
        number = r.at;
        stands = is_numbered r.at path r.got;
        deep = r.long;
        first = λ k other less there. r.first k other less (numbered_is k other there);
      }

  pub not_numbered : (k : ℕ) (path : List ℕ) → place_count s ≤ k → IsNumbered ds p k path → ⊥
  not_numbered k path past e = none_found Number [] s k path past (numbered_is k path e)

  pub not_deep : (n : ℕ) (path : List ℕ) → depth s ≤ n → IsFirstDeep ds p n path → ⊥
  not_deep n path past e = none_got n (paths_from [] s) e.number path (none_long s [] n (omega (arith, past))) (numbered_is e.number path e.stands) e.deep

  pub some_numbered : (k : ℕ) → k < place_count s → (path : List ℕ) × IsNumbered ds p k path
  some_numbered k less = let r = some_found Number [] s k less in (r.path, is_numbered k r.path r.found)

  pub some_deep : (n : ℕ) → n < depth s → (path : List ℕ) × IsFirstDeep ds p n path
  some_deep n less = let r = some_found Digits [] s n less in (r.path, is_deep n r.path r.found)

-- ---- laws

same_path : (v w : List ℕ) → Some v ≡ Some w → v ≡ w
same_path v w e = cc (e)

pub one_number : (ds : List Definition) (p : Written) (k : ℕ) (v w : List ℕ) → IsNumbered ds p k v → IsNumbered ds p k w → v ≡ w
one_number ds p k v w e g = same_path v w (sym (e []) ∙ g [])

pub one_deep : (ds : List Definition) (p : Written) (n : ℕ) (v w : List ℕ) → IsFirstDeep ds p n v → IsFirstDeep ds p n w → v ≡ w
one_deep ds p n v w e g =
    let same : e.number ≡ g.number = same_number e.number g.number (λ less. g.first e.number v less e.stands e.deep) (λ less. e.first g.number w less g.stands g.deep) in
    one_number ds p g.number v w (subst (λ k. IsNumbered ds p k v) same e.stands) g.stands

less_or_past : (a b : ℕ) → ¬ (b ≤ a) → a < b
less_or_past a b h = omega (arith, h)

pub numbered_where : (ds : List Definition) (p : Written) (k : ℕ) (identifiers : List (List ℕ)) → k < node_count (expansion ds identifiers p).process → (path : List ℕ) × IsNumbered ds p k path
numbered_where ds p k identifiers less =
    some_numbered ds p (shape (expansion ds identifiers p).process) (own_shape ds p identifiers) k (subst (λ n. k < n) (nodes_are (expansion ds identifiers p).process) less)

pub numbered_only : (ds : List Definition) (p : Written) (k : ℕ) (path : List ℕ) (identifiers : List (List ℕ)) → IsNumbered ds p k path → k < node_count (expansion ds identifiers p).process
numbered_only ds p k path identifiers e =
    less_or_past k (node_count (expansion ds identifiers p).process)
    (λ past. not_numbered ds p (shape (expansion ds identifiers p).process) (own_shape ds p identifiers) k path (subst (λ n. n ≤ k) (nodes_are (expansion ds identifiers p).process) past) e)

pub deep_where : (ds : List Definition) (p : Written) (n : ℕ) (identifiers : List (List ℕ)) → n < level_count (expansion ds identifiers p).process → (path : List ℕ) × IsFirstDeep ds p n path
deep_where ds p n identifiers less =
    some_deep ds p (shape (expansion ds identifiers p).process) (own_shape ds p identifiers) n (subst (λ k. n < k) (levels_are (expansion ds identifiers p).process) less)

pub deep_only : (ds : List Definition) (p : Written) (n : ℕ) (path : List ℕ) (identifiers : List (List ℕ)) → IsFirstDeep ds p n path → n < level_count (expansion ds identifiers p).process
deep_only ds p n path identifiers e =
    less_or_past n (level_count (expansion ds identifiers p).process)
    (λ past. not_deep ds p (shape (expansion ds identifiers p).process) (own_shape ds p identifiers) n path (subst (λ k. k ≤ n) (levels_are (expansion ds identifiers p).process) past) e)
