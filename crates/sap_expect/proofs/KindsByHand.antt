-- What may stand behind small files, computed.
use Rattle.std.proofs.Common.{◌≡◌, Bool, true, false, List, [], ◌∷◌, Option, Some, None, refl, subst}
use Rattle.std.specs.Prelude.{◌&&◌}
use Rattle.std.specs.Bool.{Decides}
use Rattle.std.specs.List.{list_all}
use Rattle.sap_grammar.specs.Words.{Word}
use Rattle.sap_expect.specs.FileTable.{file}
use Rattle.sap_expect.specs.Kinds.{Kind, kinds}
use Rattle.sap_expect.specs.MayStand.{IsWantedList}
use Rattle.sap_expect.specs.code.Going.{AreRowsNamed, CanGo, Each, IsRowNamed, KindRow, StandsAt, kind_rows, listed, no_row, row_is, row_isnt}
use Rattle.sap_expect.proofs.Ends.{all_lettered, is_lettered}
use Rattle.sap_expect.proofs.KindNames.{one_list, wanted_list}
use Rattle.sap_expect.proofs.KindReached.{stands_at}
use Rattle.sap_expect.proofs.Quiet.{both_true, closes}
use Rattle.sap_expect.proofs.Reaching.{Answer, State, next_at, next_told, reach, reach_goes, turns}

abbrev start : State
start = (0, file)

-- whether the word is taken; the second line where the turns don't tell
abbrev is_taken : Answer → Bool
is_taken None = false
is_taken (Some None) = false
is_taken (Some (Some next)) = true

abbrev is_sure : Answer → Bool
is_sure None = false
is_sure (Some o) = true

taken_decides : (s : State) (w : Word) (a : Answer) → next_at turns s w ≡ a → is_sure a ≡ true → Decides (is_taken a) (CanGo s.0 s.1 w)
taken_decides s w None e f = absurd (cc (f))
taken_decides s w (Some None) e f = ((λ g. absurd (cc (g))), (λ g. absurd (next_told turns s w None e g.0 g.1 g.2)))
taken_decides s w (Some (Some next)) e f = ((λ g. (next.0, next.1, next_told turns s w (Some next) e)), (λ g. refl))

-- both, the second where the first is so
abbrev then_also : Bool → (Unit {0} → Bool) → Bool
then_also true go = go tt
then_also false go = false

abbrev all_taken : State → List Word → Bool
all_taken s [] = true
all_taken s (w ∷ ws) = then_also (is_taken (next_at turns s w)) (λ u. all_taken s ws)

abbrev all_sure : State → List Word → Bool
all_sure s [] = true
all_sure s (w ∷ ws) = then_also (is_sure (next_at turns s w)) (λ u. all_sure s ws)

then_both : (a : Bool) (go : Unit {0} → Bool) → then_also a go ≡ true → (a ≡ true) × (go tt ≡ true)
then_both true go e = (refl, e)
then_both false go e = absurd (cc (e))

and_decides : (A B : Type 0) (a : Bool) (go : Unit {0} → Bool) → Decides a A → Decides (go tt) B → Decides (then_also a go) (A × B)
and_decides A B true go d e = ((λ f. (d.0 refl, e.0 f)), (λ h. e.1 h.1))
and_decides A B false go d e = ((λ f. absurd (cc (f))), (λ h. d.1 h.0))

words_decide : (s : State) (ws : List Word) → all_sure s ws ≡ true → Decides (all_taken s ws) (Each (CanGo s.0 s.1) ws)
words_decide s [] e = ((λ f. tt), (λ h. refl))
words_decide s (w ∷ ws) e =
    let b = then_both (is_sure (next_at turns s w)) (λ u. all_sure s ws) e in
    and_decides (CanGo s.0 s.1 w) (Each (CanGo s.0 s.1) ws) (is_taken (next_at turns s w)) (λ u. all_taken s ws) (taken_decides s w (next_at turns s w) refl b.0) (words_decide s ws b.1)

abbrev turned : Bool → Bool
turned true = false
turned false = true

not_decides : (A : Type 0) (a : Bool) → Decides a A → Decides (turned a) (A → ⊥)
not_decides A true d = ((λ f. absurd (cc (f))), (λ h. absurd (h (d.0 refl))))
not_decides A false d = ((λ f a. absurd (cc (d.1 a))), (λ h. refl))

abbrev none_taken : State → List (List Word) → Bool
none_taken s [] = true
none_taken s (ws ∷ wss) = then_also (turned (all_taken s ws)) (λ u. none_taken s wss)

abbrev each_sure : State → List (List Word) → Bool
each_sure s [] = true
each_sure s (ws ∷ wss) = then_also (all_sure s ws) (λ u. each_sure s wss)

lists_decide : (s : State) (wss : List (List Word)) → each_sure s wss ≡ true → Decides (none_taken s wss) (Each (λ ws. Each (CanGo s.0 s.1) ws → ⊥) wss)
lists_decide s [] e = ((λ f. tt), (λ h. refl))
lists_decide s (ws ∷ wss) e =
    let b = then_both (all_sure s ws) (λ u. each_sure s wss) e in
    and_decides (Each (CanGo s.0 s.1) ws → ⊥) (Each (λ us. Each (CanGo s.0 s.1) us → ⊥) wss) (turned (all_taken s ws)) (λ u. none_taken s wss)
    (not_decides (Each (CanGo s.0 s.1) ws) (all_taken s ws) (words_decide s ws b.0)) (lists_decide s wss b.1)

abbrev is_row : State → KindRow → Bool
is_row s r = then_also (all_taken s r.1) (λ u. none_taken s r.2)

-- sure of the row's own words, and, where these are taken, of the others
abbrev if_taken : Bool → (Unit {0} → Bool) → Bool
if_taken true go = go tt
if_taken false go = true

abbrev row_sure : State → KindRow → Bool
row_sure s r = then_also (all_sure s r.1) (λ u. if_taken (all_taken s r.1) (λ v. each_sure s r.2))

row_decides : (s : State) (r : KindRow) → row_sure s r ≡ true → Decides (is_row s r) (IsRowNamed s.0 s.1 r)
row_decides s r e =
    let b = then_both (all_sure s r.1) (λ u. if_taken (all_taken s r.1) (λ v. each_sure s r.2)) e in
    by (all_taken s r.1) (words_decide s r.1 b.0) b.1
  where
    by : (a : Bool) → Decides a (Each (CanGo s.0 s.1) r.1) → if_taken a (λ v. each_sure s r.2) ≡ true → Decides (then_also a (λ u. none_taken s r.2)) (IsRowNamed s.0 s.1 r)
    by true d f = and_decides (Each (CanGo s.0 s.1) r.1) (Each (λ us. Each (CanGo s.0 s.1) us → ⊥) r.2) true (λ u. none_taken s r.2) d (lists_decide s r.2 f)
    by false d f = ((λ g. absurd (cc (g))), (λ h. d.1 h.0))

abbrev kind_and : Bool → Kind → List Kind → List Kind
kind_and true k ks = k ∷ ks
kind_and false k ks = ks

abbrev kinds_at : State → List KindRow → List Kind
kinds_at s [] = []
kinds_at s (r ∷ rs) = kind_and (is_row s r) r.0 (kinds_at s rs)

abbrev rows_sure : State → List KindRow → Bool
rows_sure s [] = true
rows_sure s (r ∷ rs) = then_also (row_sure s r) (λ u. rows_sure s rs)

rows_named : (s : State) (rs : List KindRow) → rows_sure s rs ≡ true → AreRowsNamed s.0 s.1 rs (kinds_at s rs)
rows_named s [] e = no_row
rows_named s (r ∷ rs) e =
    let b = then_both (row_sure s r) (λ u. rows_sure s rs) e in
    by (is_row s r) (row_decides s r b.0) (rows_named s rs b.1)
  where
    by : (a : Bool) → Decides a (IsRowNamed s.0 s.1 r) → AreRowsNamed s.0 s.1 rs (kinds_at s rs) → AreRowsNamed s.0 s.1 (r ∷ rs) (kind_and a r.0 (kinds_at s rs))
    by true d h = row_is (d.0 refl) h
    by false d h = row_isnt (λ i. absurd (cc (d.1 i))) h

abbrev is_reached : Option State → Bool
is_reached None = false
is_reached (Some s) = closes s.1 && listed s.1

abbrev reached_or : Option State → State
reached_or None = start
reached_or (Some s) = s

-- the state behind the words
abbrev state : List Word → State
state ws = reached_or (reach start ws)

state_stands : (ws : List Word) → list_all is_lettered ws ≡ true → is_reached (reach start ws) ≡ true → StandsAt ws (state ws).0 (state ws).1
state_stands ws l e = by (reach start ws) refl e
  where
    by : (o : Option State) → reach start ws ≡ o → is_reached o ≡ true → StandsAt ws (reached_or o).0 (reached_or o).1
    by None f g = absurd (cc (g))
    by (Some s) f g =
        let b = both_true (closes s.1) (listed s.1) g in
        stands_at ws s.0 s.1 (all_lettered ws l) (record { reached = record { goes = reach_goes start ws s f; close = b.0 }; all_listed = b.1 })

-- the list is this, by a state that is known to be that behind the words
pub computed : (ws : List Word) (those : List Kind) → list_all is_lettered ws ≡ true → is_reached (reach start ws) ≡ true → rows_sure (state ws) (kind_rows [] kinds) ≡ true
    → kinds_at (state ws) (kind_rows [] kinds) ≡ those → IsWantedList ws those
computed ws those l e f g =
    subst (λ (ks : List Kind). IsWantedList ws ks) g
    (wanted_list ws (state ws).0 (state ws).1 (state_stands ws l e) (kinds_at (state ws) (kind_rows [] kinds)) (rows_named (state ws) (kind_rows [] kinds) f))

pub not_this : (ws : List Word) (those others : List Kind) → IsWantedList ws those → (those ≡ others → ⊥) → IsWantedList ws others → ⊥
not_this ws those others h never g = never (one_list h g)
