-- The kinds that are named have the words that may stand, and no others.
use Rattle.std.proofs.Common.{◌≡◌, inl, inr, ℕ, Bool, true, false, List, [], ◌∷◌, ◌++◌, append_assoc, refl, sym, subst}
use Rattle.std.proofs.lemmas.List.{append-nil}
use Rattle.std.specs.Prelude.{◌||◌}
use Rattle.std.specs.List.{list_all, list_any}
use Rattle.sap_terms.proofs.PlainLaws.Known.{clash}
use Rattle.sap_grammar.specs.Words.{Word}
use Rattle.sap_expect.specs.FileTable.{Open, Reads, Takes, file}
use Rattle.sap_expect.specs.Kinds.{Kind, is_of, kinds}
use Rattle.sap_expect.specs.Letters.{AreLettered, IsLettered}
use Rattle.sap_expect.specs.MayStand.{AreThose, IsNamed, IsWantedList, IsWithin, KindMayStand, MayStand, none_left, this_is, this_isnt}
use Rattle.sap_expect.specs.code.Going.{Each, StandsAt}
use Rattle.sap_expect.proofs.FirstWrong.{one_further}
use Rattle.sap_expect.proofs.FollowItems.{file_follows}
use Rattle.sap_expect.proofs.KindListed.{listed_on}
use Rattle.sap_expect.proofs.KindNames.{all_each, each_more, stands}
use Rattle.sap_expect.proofs.KindReached.{Stood, first_stood, stands_at}
use Rattle.sap_expect.proofs.KindTaken.{IsGoing, Somewhere, some_kind}
use Rattle.sap_expect.proofs.KindWords.{either, is_fine, or_left, or_right}
use Rattle.sap_expect.proofs.OnRows.{taken_first}
use Rattle.sap_expect.proofs.Quiet.{both_true}

-- what stands behind the first words of those that read on
record Before (pre rest : List Word) : Type 0 where
  levels : ℕ
  open_ones : List Open
  stood : Stood pre levels open_ones
  reads : Reads levels open_ones rest

one_on : {n k : ℕ} {us next : List Open} {ws : List Word} {w : Word} → Stood ws n us → Takes n us w k next → Stood (ws ++ w ∷ []) k next
one_on s t = record { reached = one_further s.reached t; all_listed = listed_on t s.all_listed }

all_on : (pre ws rest : List Word) (n : ℕ) (us : List Open) → Stood pre n us → Reads n us (ws ++ rest) → Before (pre ++ ws) rest
all_on pre [] rest n us s r = record { levels = n; open_ones = us; stood = subst (λ (x : List Word). Stood x n us) (sym (append-nil pre)) s; reads = r }
all_on pre (w ∷ ws) rest n us s r =
    let t = taken_first r in
    subst (λ (x : List Word). Before x rest) (append_assoc pre (w ∷ []) ws) (all_on (pre ++ w ∷ []) ws rest t.0 t.1 (one_on s t.2) t.3)

record Place (ws : List Word) : Type 0 where
  levels : ℕ
  open_ones : List Open
  stands_there : StandsAt ws levels open_ones

place : (ws : List Word) (w : Word) → AreLettered ws → MayStand ws w → Place ws
place ws w l h =
    let b = all_on [] ws (w ∷ h.0) 0 file first_stood (file_follows (ws ++ w ∷ h.0) h.1) in
    record { levels = b.levels; open_ones = b.open_ones; stands_there = stands_at ws b.levels b.open_ones l b.stood }

-- a kind that has the word, and may stand
abbrev Has : List Word → Word → Kind → Type 0
Has ws w k = KindMayStand ws k × (is_of k w ≡ true)

some_stands : (ws : List Word) (w : Word) (n : ℕ) (vs : List Open) → StandsAt ws n vs → (ks : List Kind) → list_all is_fine ks ≡ true → Somewhere (IsGoing n vs w) ks → Somewhere (Has ws w) ks
some_stands ws w n vs s [] f h = absurd h
some_stands ws w n vs s (k ∷ ks) f (inl h) =
    let b = both_true (is_fine k) (list_all is_fine ks) f in
    inl (stands ws n vs s k b.0 h.0, h.1)
some_stands ws w n vs s (k ∷ ks) f (inr h) =
    let b = both_true (is_fine k) (list_all is_fine ks) f in
    inr (some_stands ws w n vs s ks b.1 h)

pub some_has : (ws : List Word) (w : Word) → AreLettered ws → IsLettered w → MayStand ws w → Somewhere (Has ws w) kinds
some_has ws w l m h =
    let p = place ws w l h in
    some_stands ws w p.levels p.open_ones p.stands_there kinds refl (some_kind p.levels p.open_ones w p.stands_there.only_listed m (p.stands_there.back w h))

-- the first that has it is named
abbrev HasNot : List Word → Word → Kind → Type 0
HasNot ws w k = KindMayStand ws k → is_of k w ≡ true → ⊥

narrower : (ws : List Word) (w : Word) (k : Kind) (before : List Kind) → is_of k w ≡ true → Each (HasNot ws w) before → Each (λ j. IsWithin k j → KindMayStand ws j → ⊥) before
narrower ws w k [] e h = tt
narrower ws w k (j ∷ js) e h = ((λ within may. h.0 may (within w e)), narrower ws w k js e h.1)

isnt_has : (ws : List Word) (w : Word) (before : List Kind) (k : Kind) → (IsNamed ws before k → ⊥) → Each (HasNot ws w) before → HasNot ws w k
isnt_has ws w before k never h may e =
    never (record { stands = may; widest = all_each (λ j. IsWithin k j → KindMayStand ws j → ⊥) before (narrower ws w k before e h) })

behind : (ws : List Word) (w : Word) (k : Kind) (ks : List Kind) → HasNot ws w k → Somewhere (Has ws w) (k ∷ ks) → Somewhere (Has ws w) ks
behind ws w k ks never (inl h) = absurd (never h.0 h.1)
behind ws w k ks never (inr h) = h

first_named : (k : Kind) (w : Word) (those : List Kind) → (is_of k w ≡ false → list_any (λ j. is_of j w) those ≡ true) → (is_of k w || list_any (λ j. is_of j w) those) ≡ true
first_named k w those h = by (is_of k w) refl
  where
    by : (b : Bool) → is_of k w ≡ b → (is_of k w || list_any (λ j. is_of j w) those) ≡ true
    by true e = or_left (is_of k w) (list_any (λ j. is_of j w) those) e
    by false e = or_right (is_of k w) (list_any (λ j. is_of j w) those) (h e)

covered : (ws : List Word) (w : Word) {before ks those : List Kind} → AreThose (IsNamed ws) before ks those → Each (HasNot ws w) before → Somewhere (Has ws w) ks
    → list_any (λ k. is_of k w) those ≡ true
covered ws w none_left b h = absurd h
covered ws w (this_is {before = before} {ks = ks} {those = those} {k = k} i r) b h =
    first_named k w those (λ e. covered ws w r (each_more (HasNot ws w) before k b (λ may f. clash (is_of k w) f e)) (behind ws w k ks (λ may f. clash (is_of k w) f e) h))
covered ws w (this_isnt {before = before} {ks = ks} {k = k} i r) b h =
    covered ws w r (each_more (HasNot ws w) before k b (isnt_has ws w before k i b)) (behind ws w k ks (isnt_has ws w before k i b) h)

pub all_named : (ws : List Word) (those : List Kind) (w : Word) → AreLettered ws → IsLettered w → IsWantedList ws those → MayStand ws w → list_any (λ k. is_of k w) those ≡ true
all_named ws those w l m r h = covered ws w r tt (some_has ws w l m h)

only_those : (ws : List Word) (w : Word) {before ks those : List Kind} → AreThose (IsNamed ws) before ks those → list_any (λ k. is_of k w) those ≡ true → MayStand ws w
only_those ws w none_left e = absurd (cc (e))
only_those ws w (this_is {those = those} {k = k} i r) e = either (is_of k w) (list_any (λ j. is_of j w) those) e (λ f. i.stands w f) (λ f. only_those ws w r f)
only_those ws w (this_isnt i r) e = only_those ws w r e

pub only_named : (ws : List Word) (those : List Kind) (w : Word) → IsWantedList ws those → list_any (λ k. is_of k w) those ≡ true → MayStand ws w
only_named ws those w r e = only_those ws w r e

-- words of the same kinds may stand alike
alike : (ws : List Word) (v w : Word) → ((k : Kind) → is_of k v ≡ is_of k w) → (ks : List Kind) → Somewhere (Has ws v) ks → MayStand ws w
alike ws v w same [] h = absurd h
alike ws v w same (k ∷ ks) (inl h) = h.0 w (subst (λ (b : Bool). b ≡ true) (same k) h.1)
alike ws v w same (k ∷ ks) (inr h) = alike ws v w same ks h

pub whole_kinds : (ws : List Word) (v w : Word) → AreLettered ws → IsLettered v → ((k : Kind) → is_of k v ≡ is_of k w) → MayStand ws v → MayStand ws w
whole_kinds ws v w l m same h = alike ws v w same kinds (some_has ws v l m h)
