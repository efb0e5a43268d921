-- What walks through nodes find: the first of a name, and the one of a number.
use Rattle.std.proofs.Common.{◌≡◌, ℕ, zero, suc, ◌+◌, ◌<◌, ◌≤◌, List, [], ◌∷◌, Bool, true, false, Option, Some, None, inl, inr, arith, nat_eq, refl, sym, ap, subst, ◌∙◌}
use Rattle.std.specs.Prelude.{◌⊎◌, min, slice_get, if◌then◌else◌}
use Rattle.std.proofs.lemmas.Bool.Decides.{Decides-eqb}
use Rattle.sap_terms.proofs.PlainLaws.Known.{one_name, two_names}
use Rattle.sap_nodes.specs.FullScope.{IsNamed}
use Rattle.sap_nodes.specs.HeadNodes.{Node, binder, variable, public, fresh, symbol, fact}
use Rattle.sap_other_nodes.specs.code.Binders.{named_by}
use Rattle.sap_other_nodes.specs.code.Seeks.{after, from_node, most, name_of, same_names}
use Rattle.sap_other_nodes.specs.declared.seek.Seek.{Seek}
use Rattle.sap_other_nodes.specs.declared.seek.Wanted.{Wanted}
use Rattle.sap_other_nodes.specs.declared.seek.Wanted.TheVariants.{Number, Named}

-- ---- the first of a name

has_name : (n : List ℕ) (m : Node) → same_names (Some n) (name_of m) ≡ true → IsNamed n m
has_name n (binder v) e = sym (one_name n v.name e)
has_name n (variable v) e = sym (one_name n v.name e)
has_name n (public k) e = cc
has_name n (fresh k) e = cc
has_name n (symbol a f k) e = cc
has_name n (fact a f) e = cc

has_not : (n : List ℕ) (m : Node) → same_names (Some n) (name_of m) ≡ false → IsNamed n m → ⊥
has_not n (binder v) e h = two_names n v.name e (sym h)
has_not n (variable v) e h = two_names n v.name e (sym h)
has_not n (public k) e h = h
has_not n (fresh k) e h = h
has_not n (symbol a f k) e h = h
has_not n (fact a f) e h = h

-- where one is found, nothing changes
stays : (w : Wanted) (at : ℕ) (o : Option (List ℕ)) (ns : List Node)
    → after w (record { at = at; found = true; name = o }) ns ≡ record { at = at; found = true; name = o }
stays w at o [] = refl
stays w at o (n ∷ ns) = stays w at o ns

-- the first of the nodes that has the name is found, where so many stand in front of them
pub record Hit (n : List ℕ) (ns : List Node) (at : ℕ) (r : Seek) : Type 0 where
  pub place : ℕ
  pub node : Node
  pub stands : slice_get ns place ≡ Some node
  pub named : IsNamed n node
  pub first : (j : ℕ) (m : Node) → j < place → slice_get ns j ≡ Some m → IsNamed n m → ⊥
  pub found : r.found ≡ true
  pub counted : r.at ≡ min (at + place) most

-- none has it, and none is found
pub record Miss (n : List ℕ) (ns : List Node) (r : Seek) : Type 0 where
  pub each : (j : ℕ) (m : Node) → slice_get ns j ≡ Some m → IsNamed n m → ⊥
  pub found : r.found ≡ false

one_of : (m n : Node) → Some m ≡ Some n → m ≡ n
one_of m n e = cc

pub outcome : (n : List ℕ) (ns : List Node) (at : ℕ) → at ≤ most
    → Hit n ns at (after Named (from_node at n) ns) ⊎ Miss n ns (after Named (from_node at n) ns)
outcome n [] at l = inr (record { each = λ j m e. cc; found = refl })
outcome n (m ∷ ns) at l = by (same_names (Some n) (name_of m)) refl (outcome n ns (min (at + 1) most) (omega arith)) where
  here : same_names (Some n) (name_of m) ≡ true → Hit n (m ∷ ns) at (record { at = at; found = true; name = name_of m })
  here e = record {
    place = 0;
    node = m;
    stands = refl;
    named = has_name n m e;
    first = λ j u k. absurd (omega (arith, k));
    found = refl;
    counted = omega (arith, l);
  }

  each : same_names (Some n) (name_of m) ≡ false → ((j : ℕ) (u : Node) → slice_get ns j ≡ Some u → IsNamed n u → ⊥) → (j : ℕ) (u : Node)
      → slice_get (m ∷ ns) j ≡ Some u → IsNamed n u → ⊥
  each e h zero u k is = has_not n m e (subst (IsNamed n) (sym (one_of m u k)) is)
  each e h (suc j) u k is = h j u k is

  ahead : (p : ℕ) → same_names (Some n) (name_of m) ≡ false → ((j : ℕ) (u : Node) → j < p → slice_get ns j ≡ Some u → IsNamed n u → ⊥) → (j : ℕ) (u : Node)
      → j < suc p → slice_get (m ∷ ns) j ≡ Some u → IsNamed n u → ⊥
  ahead p e h zero u l k is = has_not n m e (subst (IsNamed n) (sym (one_of m u k)) is)
  ahead p e h (suc j) u l k is = h j u (omega (arith, l)) k is

  past : (r : Seek) → same_names (Some n) (name_of m) ≡ false → Hit n ns (min (at + 1) most) r → Hit n (m ∷ ns) at r
  past r e h = record {
    place = suc h.place;
    node = h.node;
    stands = h.stands;
    named = h.named;
    first = ahead h.place e h.first;
    found = h.found;
    counted = let c = h.counted in omega (arith, c);
  }

  by : (b : Bool) → same_names (Some n) (name_of m) ≡ b
      → Hit n ns (min (at + 1) most) (after Named (from_node (min (at + 1) most) n) ns) ⊎ Miss n ns (after Named (from_node (min (at + 1) most) n) ns)
      → Hit n (m ∷ ns) at (after Named (if b then record { at = at; found = true; name = name_of m } else from_node (min (at + 1) most) n) ns)
      ⊎ Miss n (m ∷ ns) (after Named (if b then record { at = at; found = true; name = name_of m } else from_node (min (at + 1) most) n) ns)
  by true e later = inl (subst (Hit n (m ∷ ns) at) (sym (stays Named at (name_of m) ns)) (here e))
  by false e (inl h) = inl (past (after Named (from_node (min (at + 1) most) n) ns) e h)
  by false e (inr h) = inr (record { each = each e h.each; found = h.found })

-- ---- the one of a number

-- so many nodes stand in front, and no name is kept
abbrev blank : ℕ → Seek
blank at = record { at = at; found = false; name = None }

not_yet : (at k : ℕ) → at < k → nat_eq at k ≡ false
not_yet at k l = by (nat_eq at k) refl where
  by : (b : Bool) → nat_eq at k ≡ b → b ≡ false
  by true e = let same = (Decides-eqb at k).0 e in absurd (omega (arith, same, l))
  by false e = refl

pub numbered : (j k : ℕ) (ns : List Node) (at : ℕ) → k ≡ at + j → k < most → (after (Number k) (blank at) ns).name ≡ named_by (slice_get ns j)
numbered j k [] at e l = refl
numbered zero k (m ∷ ns) at e l =
    let now : nat_eq at k ≡ true = (Decides-eqb at k).1 (omega (arith, e)) in
    ap (λ (b : Bool). (after (Number k) (if b then record { at = at; found = true; name = name_of m } else blank (min (at + 1) most)) ns).name) now
    ∙ ap (λ (a : Seek). a.name) (stays (Number k) at (name_of m) ns)
numbered (suc j) k (m ∷ ns) at e l =
    ap (λ (b : Bool). (after (Number k) (if b then record { at = at; found = true; name = name_of m } else blank (min (at + 1) most)) ns).name) (not_yet at k (omega (arith, e)))
    ∙ numbered j k ns (min (at + 1) most) (omega (arith, e, l)) l
