-- Words that are taken one by one, computed.
use Rattle.std.proofs.Common.{◌≡◌, ℕ, Bool, true, false, List, [], ◌∷◌, Option, Some, None, refl, subst}
use Rattle.sap_grammar.specs.Words.{Word}
use Rattle.sap_expect.specs.declared.wanted.Limit.TheVariants.{Same}
use Rattle.sap_expect.specs.declared.wanted.Part.{Part}
use Rattle.sap_expect.specs.FileTable.{Open, part}
use Rattle.sap_expect.specs.LevelExamples.{MayBegin}
use Rattle.sap_expect.specs.Levels.{AreTaken, more_taken, none_taken}
use Rattle.sap_expect.proofs.Reaching.{Answer, State, next_at, next_told, reach, reach_by, turns}
use Rattle.sap_expect.proofs.Takes.{one_next}

one_taken : (s : State) (w : Word) (ws : List Word) (u : State) (o : Answer) → next_at turns s w ≡ o → ((next : State) → reach next ws ≡ Some u → AreTaken next.0 next.1 ws u.0 u.1)
    → reach_by o (λ next. reach next ws) ≡ Some u → AreTaken s.0 s.1 (w ∷ ws) u.0 u.1
one_taken s w ws u None is go f = absurd (cc)
one_taken s w ws u (Some None) is go f = absurd (cc)
one_taken s w ws u (Some (Some next)) is go f = more_taken (next_told turns s w (Some next) is) (go next f)

pub all_taken : (s : State) (ws : List Word) (u : State) → reach s ws ≡ Some u → AreTaken s.0 s.1 ws u.0 u.1
all_taken s [] u e =
    let same : s ≡ u = cc in
    subst (λ (x : State). AreTaken s.0 s.1 [] x.0 x.1) same none_taken
all_taken s (w ∷ ws) u e = one_taken s w ws u (next_at turns s w) refl (λ next f. all_taken next ws u f) e

abbrev pub start : Part → ℕ → State
start p m = (0, (part p Same, m) ∷ [])

-- the state behind the words, if it is known
abbrev is_there : Option State → Bool
is_there None = false
is_there (Some u) = true

pub begins : (p : Part) (m : ℕ) (ws : List Word) → is_there (reach (start p m) ws) ≡ true → MayBegin p m ws
begins p m ws e = by (reach (start p m) ws) refl e
  where
    by : (o : Option State) → reach (start p m) ws ≡ o → is_there o ≡ true → MayBegin p m ws
    by None f g = absurd (cc)
    by (Some u) f g = (u.0, u.1, all_taken (start p m) ws u f)

abbrev pub stops_by : Answer → (State → Bool) → Bool
stops_by None go = false
stops_by (Some None) go = true
stops_by (Some (Some next)) go = go next

-- one of the words isn't taken
abbrev pub stops : State → List Word → Bool
stops s [] = false
stops s (w ∷ ws) = stops_by (next_at turns s w) (λ next. stops next ws)

one_stops : (s : State) (w : Word) (ws : List Word) (o : Answer) → next_at turns s w ≡ o → ((next : State) → stops next ws ≡ true → (j : ℕ) (us : List Open) → AreTaken next.0 next.1 ws j us → ⊥)
    → stops_by o (λ next. stops next ws) ≡ true → (j : ℕ) (us : List Open) → AreTaken s.0 s.1 (w ∷ ws) j us → ⊥
one_stops s w ws None is go f j us h = absurd (cc)
one_stops s w ws (Some None) is go f j us (more_taken {k = k} {next = next} t r) = next_told turns s w None is k next t
one_stops s w ws (Some (Some x)) is go f j us (more_taken {k = k} {next = next} t r) =
    let one = one_next s.0 s.1 w k x.0 next x.1 t (next_told turns s w (Some x) is) in
    go x f j us (subst (λ (z : List Open). AreTaken x.0 z ws j us) one.1 (subst (λ (i : ℕ). AreTaken i next ws j us) one.0 r))

pub all_stops : (s : State) (ws : List Word) → stops s ws ≡ true → (j : ℕ) (us : List Open) → AreTaken s.0 s.1 ws j us → ⊥
all_stops s [] e j us h = absurd (cc)
all_stops s (w ∷ ws) e j us h = one_stops s w ws (next_at turns s w) refl (λ next f. all_stops next ws f) e j us h

pub begins_not : (p : Part) (m : ℕ) (ws : List Word) → stops (start p m) ws ≡ true → MayBegin p m ws → ⊥
begins_not p m ws e h = all_stops (start p m) ws e h.0 h.1 h.2
