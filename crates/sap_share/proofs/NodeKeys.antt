-- Nodes as keys with the numbers of their names.
use Rattle.std.proofs.Common.{◌≡◌, ◌<◌, ℕ, List, [], ◌∷◌, ◌++◌, length, option_map, Some, None, Bool, true, false, if◌then◌else◌, get_or, refl, sym, ap, ◌∙◌, arith}
use Rattle.std.specs.Prelude.{Contains, slice_get}
use Rattle.std.proofs.lemmas.List.{get_or-map, length-map, map_push}
use Rattle.std.proofs.lemmas.List.Elements.{All-push}
use Rattle.std.proofs.lemmas.Option.{same_Some, slice_get-map}
use Rattle.std.proofs.lemmas.Slice.Eq.{bytes_eq-Decides}
use Rattle.std.specs.Str.{bytes_eq}
use Rattle.sap_terms.specs.NameMap.{Puts, value_at}
use Rattle.sap_share.specs.code.Keys.{key_sought}
use Rattle.sap_share.specs.code.Numbered.{name_number, nodes_in, AreNumbered, KeepsNumbers}
use Rattle.sap_share.specs.declared.key.Key.{Key}
use Rattle.sap_share.specs.declared.node.Node.{Node}
use Rattle.sap_share.specs.declared.node.Node.TheVariants.{Public, Fresh, App}

pub nodes_in-push : (ks : List Key) (k : Key) → nodes_in (ks ++ k ∷ []) ≡ nodes_in ks ++ k.node ∷ []
nodes_in-push ks k = map_push (λ (k : Key). k.node) ks k

-- the node at an index is that of the key there
node_at : (ks : List Key) (i : ℕ) (d : Key) (n : Node) → i < length ks → get_or (nodes_in ks) i n ≡ (get_or ks i d).node
node_at ks i d n lt = get_or-map (λ (k : Key). k.node) ks i d n lt

-- a key's node is among the nodes
pub node-Contains : (ks : List Key) (k : Key) → Contains ks k → Contains (nodes_in ks) k.node
node-Contains ks k (i, lt, e) =
    let l = length-map ks (λ (k : Key). k.node) in
    (i, omega (arith, l, lt), node_at ks i k k.node lt ∙ ap (λ (k : Key). k.node) e)

module _ (m : List (List ℕ × ℕ)) (ks : List Key) (h : AreNumbered m ks) where
  -- a node among them has the key with its name's number
  pub key-Contains : (name : ℕ) (n : Node) → name_number m n ≡ Some name → Contains (nodes_in ks) n → Contains ks (key_sought name n)
  key-Contains name n has (i, lt, e) =
      let d = key_sought name n in
      let l = length-map ks (λ (k : Key). k.node) in
      let within : i < length ks = omega (arith, l, lt) in
      let node : (get_or ks i d).node ≡ n = sym (node_at ks i d n within) ∙ e in
      let named : name_number m (get_or ks i d).node ≡ Some (get_or ks i d).name = h i d within in
      let same : (get_or ks i d).name ≡ name = same_Some (get_or ks i d).name name (sym named ∙ ap (name_number m) node ∙ has) in
      (i, within, λ j. record { name = same j; node = node j })

  -- so one whose name has no number isn't there
  pub unnumbered_new : (n : Node) → name_number m n ≡ None → Contains (nodes_in ks) n → ⊥
  unnumbered_new n none (i, lt, e) =
      let d = key_sought 0 n in
      let l = length-map ks (λ (k : Key). k.node) in
      let within : i < length ks = omega (arith, l, lt) in
      let node : (get_or ks i d).node ≡ n = sym (node_at ks i d n within) ∙ e in
      let named : name_number m (get_or ks i d).node ≡ Some (get_or ks i d).name = h i d within in
      let bad : Some (get_or ks i d).name ≡ None = sym named ∙ ap (name_number m) node ∙ none in
      cc

  -- one key more
  pub numbered_push : (name : ℕ) (n : Node) → name_number m n ≡ Some name → AreNumbered m (ks ++ key_sought name n ∷ [])
  numbered_push name n has = All-push (λ (k : Key). name_number m k.node ≡ Some k.name) ks (key_sought name n) h has

-- names keep their numbers, so nodes do
pub name_kept : (old new : List (List ℕ × ℕ)) → KeepsNumbers old new → (n : Node) (k : ℕ) → name_number old n ≡ Some k → name_number new n ≡ Some k
name_kept old new keeps (Public a) k h = keeps a k h
name_kept old new keeps (Fresh x) k h = h
name_kept old new keeps (App f ks) k h = keeps f k h

pub numbered_kept : (old new : List (List ℕ × ℕ)) (ks : List Key) → KeepsNumbers old new → AreNumbered old ks → AreNumbered new ks
numbered_kept old new ks keeps h = λ i d lt. name_kept old new keeps _ _ (h i d lt)

-- a list of names where one more has a number
pub number_put : (old new : List (List ℕ × ℕ)) (n : List ℕ) → value_at old n ≡ None → (v : ℕ) → Puts old new n (Some v) → KeepsNumbers old new
number_put old new n none v puts = λ a k has. by (bytes_eq n a) a k has refl where
  by : (b : Bool) (a : List ℕ) (k : ℕ) → value_at old a ≡ Some k → bytes_eq n a ≡ b → value_at new a ≡ Some k
  by true a k has e = absurd (let same : n ≡ a = (bytes_eq-Decides n a).0 e in let bad : Some k ≡ None = sym has ∙ ap (value_at old) (sym same) ∙ none in cc)
  by false a k has e = puts a ∙ ap (λ b. if b then Some v else value_at old a) e ∙ has

-- and it has the number
pub number_there : (old new : List (List ℕ × ℕ)) (n : List ℕ) (v : ℕ) → Puts old new n (Some v) → value_at new n ≡ Some v
number_there old new n v puts = puts n ∙ ap (λ b. if b then Some v else value_at old n) ((bytes_eq-Decides n n).1 refl)

-- a key's node stands at its place
pub node_stands : (ks : List Key) (i name : ℕ) (n : Node) → slice_get ks i ≡ Some (key_sought name n) → slice_get (nodes_in ks) i ≡ Some n
node_stands ks i name n h = slice_get-map (λ (k : Key). k.node) ks i ∙ ap (option_map (λ (k : Key). k.node)) h
