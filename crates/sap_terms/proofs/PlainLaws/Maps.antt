-- Maps whose names are in order, looked up by the names' bytes.
use Rattle.std.proofs.Common.{◌≡◌, ℕ, List, [], ◌∷◌, ◌++◌, Option, Some, None, cond, sym, ap, ◌∙◌, is_some}
use Rattle.std.specs.Map.{lookup}
use Rattle.std.specs.Option.{unwrap_or}
use Rattle.std.specs.Str.{bytes_eq}
use Rattle.std.specs.BTreeMap.{BTreeMap, get, UpdatesBy}
use Rattle.sap_terms.specs.NameMap.{Puts, items_at, value_at}
use Rattle.sap_terms.specs.code.NameOrder.{name_cmp, name_ties}

module _ {X : Type 0} where
  -- what is found in the names' order is found by the bytes
  pub by_bytes : (m : BTreeMap (List ℕ) X) (n : List ℕ) → get name_cmp m n ≡ value_at m.entries n
  by_bytes m n = λ i. lookup (λ k. sym (name_ties n k) i) m.entries

  pub has_by_bytes : (m : BTreeMap (List ℕ) X) (n : List ℕ) → is_some (get name_cmp m n) ≡ is_some (value_at m.entries n)
  has_by_bytes m n = ap is_some (by_bytes m n)

  pub put_by_bytes : (m r : BTreeMap (List ℕ) X) (n : List ℕ) (o : Option X) → UpdatesBy name_cmp (name_cmp n) m r o → Puts m.entries r.entries n o
  put_by_bytes m r n o h k = sym (by_bytes r k) ∙ h.0 k ∙ (λ i. cond (sym (name_ties n k) i) o (by_bytes m k i))

-- an item more in a name's list
pub item_by_bytes : {X : Type 0} (m r : BTreeMap (List ℕ) (List X)) (n : List ℕ) (xs ys : List X) (x : X) → get name_cmp m n ≡ Some xs → ys ≡ xs ++ x ∷ [] → UpdatesBy name_cmp (name_cmp n) m r (Some ys)
    → Puts m.entries r.entries n (Some (items_at m.entries n ++ x ∷ []))
item_by_bytes {X} m r n xs ys x at longer h k =
    let had : items_at m.entries n ≡ xs = ap (λ (o : Option (List X)). unwrap_or o []) (sym (by_bytes m n) ∙ at) in
    put_by_bytes m r n (Some ys) h k ∙ ap (λ (zs : List X). cond (bytes_eq n k) (Some zs) (value_at m.entries k)) (longer ∙ ap (λ (zs : List X). zs ++ x ∷ []) (sym had))

-- and the first one of a name without a list
pub first_by_bytes : {X : Type 0} (m : BTreeMap (List ℕ) (List X)) (r : List (List ℕ × List X)) (n : List ℕ) (x : X) → get name_cmp m n ≡ None → Puts m.entries r n (Some (x ∷ [])) → Puts m.entries r n (Some (items_at m.entries n ++ x ∷ []))
first_by_bytes {X} m r n x none h k =
    let had : items_at m.entries n ≡ [] = ap (λ (o : Option (List X)). unwrap_or o []) (sym (by_bytes m n) ∙ none) in
    h k ∙ ap (λ (zs : List X). cond (bytes_eq n k) (Some zs) (value_at m.entries k)) (ap (λ (zs : List X). zs ++ x ∷ []) (sym had))

pub ruleset map_laws = (by_bytes, has_by_bytes, put_by_bytes)
