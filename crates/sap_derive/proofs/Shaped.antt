-- Terms that aren't taken apart.
use Rattle.std.proofs.Common.{◌≡◌, ℕ, List, [], ◌∷◌, length, true, false, refl, sym, ap, ◌∙◌}
use Rattle.std.specs.Str.{bytes_eq}
use Rattle.std.proofs.lemmas.Bool.{false≢true}
use Rattle.sap_terms.specs.Tree.{Tree, public, fresh, apply, Trees, none, more, trees_of, list_of, list_of-trees_of}
use Rattle.sap_terms.specs.Signature.{Sig}
use Rattle.sap_terms.specs.Equations.{app1, app2, pair_name, senc_name, aenc_name, pk_name, reveal_sign_name}
use Rattle.std.proofs.lemmas.List.{length-map}
use Rattle.sap_share.specs.Shared.{tree_at, trees_at, node_tree}
use Rattle.sap_share.specs.declared.node.Node.{Node}
use Rattle.sap_share.specs.declared.node.Node.TheVariants.{Public, Fresh, App}
use Rattle.sap_derive.specs.code.Clauses.{IsOpening, takes_first, takes_second, decrypts, decrypts_by_secret, reads_signed}
use Rattle.sap_derive.specs.code.Shapes.{IsUnopened}

-- two names that a test tells apart
pub differ : (a b : List ℕ) → bytes_eq a b ≡ false → bytes_eq b b ≡ true → a ≡ b → ⊥
differ a b unlike like e = false≢true (sym unlike ∙ ap (λ (n : List ℕ). bytes_eq n b) e ∙ like)

module _ (f : List ℕ) (X Y : Tree) where
  -- a symbol on two terms is none of those, or `aenc` of what is no public key
  other_opened : (¬ (f ≡ pair_name)) → (¬ (f ≡ senc_name)) → (f ≡ aenc_name → (k : Tree) → Y ≡ app1 pk_name k → ⊥) → (¬ (f ≡ reveal_sign_name))
      → (g : Sig) (h : Tree) (rest : List Tree) (t : Tree) → h ≡ app2 f X Y → IsOpening g h rest t → ⊥
  other_opened a b c d g _ _ _ e (takes_first x y can) = a (cc)
  other_opened a b c d g _ _ _ e (takes_second x y can) = a (cc)
  other_opened a b c d g _ _ _ e (decrypts m k on can) = b (cc)
  other_opened a b c d g _ _ _ e (decrypts_by_secret m k on can) = c (cc) k (cc)
  other_opened a b c d g _ _ _ e (reads_signed m k on can) = d (cc)

  pub other-unopened : (¬ (f ≡ pair_name)) → (¬ (f ≡ senc_name)) → (f ≡ aenc_name → (k : Tree) → Y ≡ app1 pk_name k → ⊥) → (¬ (f ≡ reveal_sign_name)) → IsUnopened (app2 f X Y)
  other-unopened a b c d g rest t o = other_opened a b c d g (app2 f X Y) rest t refl o

-- `aenc` of what is no public key
pub aenc-unopened : (X Y : Tree) → ((k : Tree) → Y ≡ app1 pk_name k → ⊥) → IsUnopened (app2 aenc_name X Y)
aenc-unopened X Y h =
    other-unopened aenc_name X Y (differ aenc_name pair_name refl refl) (differ aenc_name senc_name refl refl) (λ _. h) (differ aenc_name reveal_sign_name refl refl)

-- a name, and a symbol that isn't on two terms
name_opened : (g : Sig) (h : Tree) (rest : List Tree) (t : Tree) → ((f : List ℕ) (us : Trees) → h ≡ apply f us → ⊥) → IsOpening g h rest t → ⊥
name_opened g _ _ _ none_such (takes_first x y can) = none_such _ _ refl
name_opened g _ _ _ none_such (takes_second x y can) = none_such _ _ refl
name_opened g _ _ _ none_such (decrypts m k on can) = none_such _ _ refl
name_opened g _ _ _ none_such (decrypts_by_secret m k on can) = none_such _ _ refl
name_opened g _ _ _ none_such (reads_signed m k on can) = none_such _ _ refl

pub public-unopened : (n : List ℕ) (h : Tree) → public n ≡ h → IsUnopened h
public-unopened n h e g rest t o = name_opened g h rest t (λ f us q. let c : public n ≡ apply f us = e ∙ q in absurd (cc)) o

pub fresh-unopened : (n : ℕ) (h : Tree) → fresh n ≡ h → IsUnopened h
fresh-unopened n h e g rest t o = name_opened g h rest t (λ f us q. let c : fresh n ≡ apply f us = e ∙ q in absurd (cc)) o

two_opened : (g : Sig) (h : Tree) (rest : List Tree) (t : Tree) (f : List ℕ) (us : List Tree) → h ≡ apply f (trees_of us) → IsOpening g h rest t → length us ≡ 2
two_opened g _ _ _ f us e (takes_first x y can) = let q : more x (more y none) ≡ trees_of us = cc in ap length (sym (list_of-trees_of us) ∙ ap list_of (sym q))
two_opened g _ _ _ f us e (takes_second x y can) = let q : more x (more y none) ≡ trees_of us = cc in ap length (sym (list_of-trees_of us) ∙ ap list_of (sym q))
two_opened g _ _ _ f us e (decrypts m k on can) = let q : more m (more k none) ≡ trees_of us = cc in ap length (sym (list_of-trees_of us) ∙ ap list_of (sym q))
two_opened g _ _ _ f us e (decrypts_by_secret m k on can) = let q : more m (more (app1 pk_name k) none) ≡ trees_of us = cc in ap length (sym (list_of-trees_of us) ∙ ap list_of (sym q))
two_opened g _ _ _ f us e (reads_signed m k on can) = let q : more m (more k none) ≡ trees_of us = cc in ap length (sym (list_of-trees_of us) ∙ ap list_of (sym q))

pub not_two-unopened : (f : List ℕ) (us : List Tree) (h : Tree) → apply f (trees_of us) ≡ h → ¬ (length us ≡ 2) → IsUnopened h
not_two-unopened f us h e other g rest t o = other (two_opened g h rest t f us (sym e) o)

-- the key of `aenc`, by its node
pub key-public : (trees : List Tree) (key secret : ℕ) (f ks : List ℕ) → node_tree trees (App f ks) ≡ tree_at trees key → f ≡ pk_name → ks ≡ secret ∷ []
    → tree_at trees key ≡ app1 pk_name (tree_at trees secret)
key-public trees key secret f ks e p q =
    sym e ∙ ap (λ (n : List ℕ). apply n (trees_of (trees_at trees ks))) p ∙ ap (λ (js : List ℕ). apply pk_name (trees_of (trees_at trees js))) q

pub key-of_name : (X : Tree) (trees : List Tree) (key : ℕ) (node : Node) → node_tree trees node ≡ tree_at trees key → ((f ks : List ℕ) → node ≡ App f ks → ⊥) → IsUnopened (app2 aenc_name X (tree_at trees key))
key-of_name X trees key (Public n) e other = aenc-unopened X (tree_at trees key) (λ k q. let c : public n ≡ app1 pk_name k = e ∙ q in absurd (cc))
key-of_name X trees key (Fresh n) e other = aenc-unopened X (tree_at trees key) (λ k q. let c : fresh n ≡ app1 pk_name k = e ∙ q in absurd (cc))
key-of_name X trees key (App f ks) e other = absurd (other f ks refl)

pub key-of_symbol : (X : Tree) (trees : List Tree) (key : ℕ) (f ks : List ℕ) → node_tree trees (App f ks) ≡ tree_at trees key → ¬ (f ≡ pk_name) → IsUnopened (app2 aenc_name X (tree_at trees key))
key-of_symbol X trees key f ks e other = aenc-unopened X (tree_at trees key) (λ k q. let c : apply f (trees_of (trees_at trees ks)) ≡ app1 pk_name k = e ∙ q in other (cc))

pub key-of_others : (X : Tree) (trees : List Tree) (key : ℕ) (f ks : List ℕ) → node_tree trees (App f ks) ≡ tree_at trees key → ¬ (length ks ≡ 1) → IsUnopened (app2 aenc_name X (tree_at trees key))
key-of_others X trees key f ks e other = aenc-unopened X (tree_at trees key) at where
  at : (k : Tree) → tree_at trees key ≡ app1 pk_name k → ⊥
  at k q =
      let c : apply f (trees_of (trees_at trees ks)) ≡ apply pk_name (more k none) = e ∙ q in
      let args : trees_of (trees_at trees ks) ≡ more k none = cc in
      let one : length (trees_at trees ks) ≡ 1 = ap length (sym (list_of-trees_of (trees_at trees ks)) ∙ ap list_of args) in
      other (sym (length-map ks (tree_at trees)) ∙ one)
