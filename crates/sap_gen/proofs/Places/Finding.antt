-- The moves of a process, found by the names of state facts.
use Rattle.std.proofs.Common.{◌≡◌, ℕ, List, Option, Some, None, Bool, true, false, refl, sym, ap, subst, ◌∙◌, inl, inr}
use Rattle.std.proofs.lemmas.Option.{same_Some}
use Rattle.std.specs.Str.{bytes_eq}
use Rattle.sap_terms.specs.Signature.{Sig}
use Rattle.sap_terms.specs.declared.fact.Fact.{Fact}
use Rattle.sap_terms.specs.declared.var.Var.{Var}
use Rattle.sap_terms.proofs.PlainLaws.Known.{one_name}
use Rattle.sap_process.specs.Places.{place}
use Rattle.sap_process.specs.Proc.{Proc}
use Rattle.sap_rule.specs.declared.rule.Rule.{Rule}
use Rattle.sap_templates.specs.Places.{ScopedPlace, root, scoped_place_at}
use Rattle.sap_translate.specs.Sound.{SoundPlaces}
use Rattle.sap_templates.specs.Templates.{state}
use Rattle.sap_translate.specs.relation.Names.{state_name}
use Rattle.sap_gen.specs.Moves.{Move, Moves, IsAsTaken}
use Rattle.sap_gen.specs.Silent.{silent_rule, IsSilentRule}
use Rattle.sap_gen.specs.code.SettledPlaces.{path_of, settled, settled_at, settled_by, settled_if, settled_named}
use Rattle.sap_gen.proofs.Places.Settling.{silent_left, silent_acts, right_settles, settled_within}
use Rattle.sap_gen.proofs.Places.Standing.{path_told, same_name}

module _ (g : Sig) (p : Proc) (sound : SoundPlaces g p) where
  abbrev Q : Rule → Type 0
  Q = IsSilentRule p

  -- the move of a silent place
  abbrev move : (path : List ℕ) (v : List Var) (b : Proc) (q : Rule) → scoped_place_at (root p) path ≡ Some (place path v b) → silent_rule path v b ≡ Some q → Move Q
  move path v b q at e = record {
    rule = q;
    shape = record { state = state path v; left = silent_left path v b q e; linear = refl; vars = v; args = refl; acts = silent_acts path v b q e };
    settled = settled path v b;
    settles = right_settles p path v b q at e;
    scoped = settled_within p g sound path v b at;
  }

  -- that of any place, if it is silent
  abbrev move_by : (path : List ℕ) (v : List Var) (b : Proc) (o : Option Rule) → scoped_place_at (root p) path ≡ Some (place path v b) → silent_rule path v b ≡ o → Option (Move Q)
  move_by path v b None at e = None
  move_by path v b (Some q) at e = Some (move path v b q at e)

  -- the place stands at the path that its name tells
  pub told : (n path : List ℕ) (v : List Var) (b : Proc) → bytes_eq (state_name path) n ≡ true → scoped_place_at (root p) (path_of n) ≡ Some (place path v b) → scoped_place_at (root p) path ≡ Some (place path v b)
  told n path v b t e = subst (λ z. scoped_place_at (root p) z ≡ Some (place path v b)) (ap path_of (sym (one_name (state_name path) n t)) ∙ path_told path) e

  -- that of the place that was found, if its state fact has this name
  abbrev move_if : (n path : List ℕ) (v : List Var) (b : Proc) (y : Bool) → bytes_eq (state_name path) n ≡ y → scoped_place_at (root p) (path_of n) ≡ Some (place path v b) → Option (Move Q)
  move_if n path v b false t e = None
  move_if n path v b true t e = move_by path v b (silent_rule path v b) (told n path v b t e) refl

  abbrev move_at : (n : List ℕ) (o : Option ScopedPlace) → scoped_place_at (root p) (path_of n) ≡ o → Option (Move Q)
  move_at n None e = None
  move_at n (Some a) e = move_if n a.path a.above a.body (bytes_eq (state_name a.path) n) refl e

  -- that of the place whose state fact has this name, if there is one
  abbrev pub moves_of : Moves Q
  moves_of n = move_at n (scoped_place_at (root p) (path_of n)) refl

  -- what is found is a move of this name
  by_named : (n path : List ℕ) (v : List Var) (b : Proc) (o : Option Rule) (at : scoped_place_at (root p) path ≡ Some (place path v b)) (e : silent_rule path v b ≡ o) (m : Move Q)
      → state_name path ≡ n → move_by path v b o at e ≡ Some m → Q m.rule × (m.shape.state.name ≡ n)
  by_named n path v b None at e m t h = cc
  by_named n path v b (Some q) at e m t h =
      subst (λ (z : Move Q). Q z.rule × (z.shape.state.name ≡ n)) (same_Some (move path v b q at e) m h) (record { path = path; scope = v; body = b; stands = at; is = e }, t)

  if_named : (n path : List ℕ) (v : List Var) (b : Proc) (y : Bool) (t : bytes_eq (state_name path) n ≡ y) (e : scoped_place_at (root p) (path_of n) ≡ Some (place path v b)) (m : Move Q)
      → move_if n path v b y t e ≡ Some m → Q m.rule × (m.shape.state.name ≡ n)
  if_named n path v b false t e m h = cc
  if_named n path v b true t e m h = by_named n path v b (silent_rule path v b) (told n path v b t e) refl m (one_name (state_name path) n t) h

  at_named : (n : List ℕ) (o : Option ScopedPlace) (e : scoped_place_at (root p) (path_of n) ≡ o) (m : Move Q) → move_at n o e ≡ Some m → Q m.rule × (m.shape.state.name ≡ n)
  at_named n None e m h = cc
  at_named n (Some a) e m h = if_named n a.path a.above a.body (bytes_eq (state_name a.path) n) refl e m h

  pub moves_named : (n : List ℕ) (m : Move Q) → moves_of n ≡ Some m → Q m.rule × (m.shape.state.name ≡ n)
  moves_named n m h = at_named n (scoped_place_at (root p) (path_of n)) refl m h

  -- at the name of a place's state fact the move of this place is found, or none
  record FoundBy (path : List ℕ) (v : List Var) (b : Proc) (o : Option (Move Q)) : Type 0 where
    at : scoped_place_at (root p) path ≡ Some (place path v b)
    is : o ≡ move_by path v b (silent_rule path v b) at refl

  if_found : (n path : List ℕ) (v : List Var) (b : Proc) (y : Bool) (t : bytes_eq (state_name path) n ≡ y) (e : scoped_place_at (root p) (path_of n) ≡ Some (place path v b)) → state_name path ≡ n
      → FoundBy path v b (move_if n path v b y t e)
  if_found n path v b true t e s = record { at = told n path v b t e; is = refl }
  if_found n path v b false t e s = let yes = same_name (state_name path) n s in cc

  at_found : (n path : List ℕ) (v : List Var) (b : Proc) (o : Option ScopedPlace) (e : scoped_place_at (root p) (path_of n) ≡ o) → o ≡ Some (place path v b) → state_name path ≡ n
      → FoundBy path v b (move_at n o e)
  at_found n path v b o e h s =
      subst (λ (x : Option ScopedPlace). (e : scoped_place_at (root p) (path_of n) ≡ x) → FoundBy path v b (move_at n x e)) (sym h)
      (λ e. if_found n path v b (bytes_eq (state_name path) n) refl e s) e

  found : (path : List ℕ) (v : List Var) (b : Proc) → scoped_place_at (root p) path ≡ Some (place path v b) → FoundBy path v b (moves_of (state_name path))
  found path v b at =
      at_found (state_name path) path v b (scoped_place_at (root p) (path_of (state_name path))) refl (ap (λ z. scoped_place_at (root p) z) (path_told path) ∙ at) refl

  -- none at a place that isn't silent
  pub none_found : (path : List ℕ) (v : List Var) (b : Proc) → scoped_place_at (root p) path ≡ Some (place path v b) → silent_rule path v b ≡ None → moves_of (state_name path) ≡ None
  none_found path v b at none = let f = found path v b at in f.is ∙ go (silent_rule path v b) f.at refl none where
    go : (o : Option Rule) (at : scoped_place_at (root p) path ≡ Some (place path v b)) (e : silent_rule path v b ≡ o) → o ≡ None → move_by path v b o at e ≡ None
    go None at e n = refl
    go (Some q) at e n = cc

  -- at a silent one its own
  pub record OwnMove (path : List ℕ) (v : List Var) (q : Rule) : Type 0 where
    pub own : Move Q
    pub is : moves_of (state_name path) ≡ Some own
    pub rule : own.rule ≡ q
    pub state_is : own.shape.state ≡ state path v

  pub own_found : (path : List ℕ) (v : List Var) (b : Proc) (q : Rule) → scoped_place_at (root p) path ≡ Some (place path v b) → silent_rule path v b ≡ Some q → OwnMove path v q
  own_found path v b q at some = let f = found path v b at in go (silent_rule path v b) f.at refl some f.is where
    go : (o : Option Rule) (at : scoped_place_at (root p) path ≡ Some (place path v b)) (e : silent_rule path v b ≡ o) → o ≡ Some q → moves_of (state_name path) ≡ move_by path v b o at e → OwnMove path v q
    go None at e s h = cc
    go (Some r) at e s h = record { own = move path v b r at e; is = h; rule = same_Some r q s; state_is = refl }

  -- no name that no state fact has tells a move
  pub other_name : (n : List ℕ) → ((path : List ℕ) → bytes_eq (state_name path) n ≡ false) → moves_of n ≡ None
  other_name n h = go (scoped_place_at (root p) (path_of n)) refl where
    none_if : (path : List ℕ) (v : List Var) (b : Proc) (y : Bool) (t : bytes_eq (state_name path) n ≡ y) (e : scoped_place_at (root p) (path_of n) ≡ Some (place path v b)) → y ≡ false → move_if n path v b y t e ≡ None
    none_if path v b false t e f = refl
    none_if path v b true t e f = cc

    go : (o : Option ScopedPlace) (e : scoped_place_at (root p) (path_of n) ≡ o) → move_at n o e ≡ None
    go None e = refl
    go (Some a) e = none_if a.path a.above a.body (bytes_eq (state_name a.path) n) refl e (h a.path)

  -- the state fact of a place stands on right sides as its move takes it, if it has one
  pub state_right : (path : List ℕ) (v : List Var) (b : Proc) → scoped_place_at (root p) path ≡ Some (place path v b) → IsAsTaken moves_of (state path v)
  state_right path v b at = go (silent_rule path v b) refl where
    go : (o : Option Rule) → silent_rule path v b ≡ o → IsAsTaken moves_of (state path v)
    go None e = inl (none_found path v b at e)
    go (Some q) e = let o = own_found path v b q at e in inr (o.own, o.is, sym o.state_is)

  -- the walk finds what the move settles to, or neither finds anything
  abbrev settles_to : Option (Move Q) → Option (List Fact)
  settles_to None = None
  settles_to (Some m) = Some m.settled

  walk_by : (path : List ℕ) (v : List Var) (b : Proc) (o : Option Rule) (at : scoped_place_at (root p) path ≡ Some (place path v b)) (e : silent_rule path v b ≡ o)
      → settled_by (place path v b) o ≡ settles_to (move_by path v b o at e)
  walk_by path v b None at e = refl
  walk_by path v b (Some q) at e = refl

  walk_if : (n path : List ℕ) (v : List Var) (b : Proc) (y : Bool) (t : bytes_eq (state_name path) n ≡ y) (e : scoped_place_at (root p) (path_of n) ≡ Some (place path v b))
      → settled_if (place path v b) y ≡ settles_to (move_if n path v b y t e)
  walk_if n path v b false t e = refl
  walk_if n path v b true t e = walk_by path v b (silent_rule path v b) (told n path v b t e) refl

  walk_at : (n : List ℕ) (o : Option ScopedPlace) (e : scoped_place_at (root p) (path_of n) ≡ o) → settled_at n o ≡ settles_to (move_at n o e)
  walk_at n None e = refl
  walk_at n (Some a) e = walk_if n a.path a.above a.body (bytes_eq (state_name a.path) n) refl e

  pub walk_some : (n : List ℕ) (m : Move Q) → moves_of n ≡ Some m → settled_named p n ≡ Some m.settled
  walk_some n m h = walk_at n (scoped_place_at (root p) (path_of n)) refl ∙ ap settles_to h

  pub walk_none : (n : List ℕ) → moves_of n ≡ None → settled_named p n ≡ None
  walk_none n h = walk_at n (scoped_place_at (root p) (path_of n)) refl ∙ ap settles_to h
