-- Words that are taken one by one, however levels count.
use Rattle.std.proofs.Common.{◌≡◌, ℕ, Bool, true, false, List, [], ◌∷◌, ◌++◌, Option, Some, refl, sym, subst}
use Rattle.std.specs.Prelude.{if◌then◌else◌}
use Rattle.sap_terms.specs.Signature.{pairs_alone}
use Rattle.sap_grammar.specs.Words.{Word}
use Rattle.sap_expect.specs.declared.nested.Nested.{Nested}
use Rattle.sap_expect.specs.declared.nested.Nested.TheVariants.{Term as ATerm, Process as AProcess, Formula as AFormula}
use Rattle.sap_expect.specs.declared.wanted.Part.{Part}
use Rattle.sap_expect.specs.declared.wanted.Test.{Test}
use Rattle.sap_expect.specs.declared.wanted.Test.TheVariants.{Always, Never, HasLevel, HasRoom, GoesOn}
use Rattle.sap_expect.specs.FileTable.{Counting, Open, Reads, Takes, TakesBy, Wanted, all_but, all_opened, every_level, file, holds, is_this, may_hold, levels_in, no_level, otherwise, passes, reads_word, row, takes_level, takes_other, takes_row, takes_word}
use Rattle.sap_expect.specs.FileWords.{IsFileWords}
use Rattle.sap_expect.specs.FirstWrong.{GoOn}
use Rattle.sap_expect.specs.Letters.{AreLettered}
use Rattle.sap_expect.specs.Levels.{AreTaken, AreTakenBy, GoesBy, IsTooDeep, more_taken, none_taken}
use Rattle.sap_expect.proofs.Ends.{ends}
use Rattle.sap_expect.proofs.FollowItems.{file_follows}
use Rattle.sap_expect.proofs.OnRows.{taken_first}
use Rattle.sap_expect.proofs.ReachedEnds.{closes_behind}
use Rattle.sap_expect.proofs.SpelledItems.{file_spelled}
use Rattle.sap_expect.proofs.Takes.{one_list, one_next, one_test}

-- a word behind words
pub taken_more : {s : Counting} {n k j : ℕ} {vs us next : List Open} {ws : List Word} {w : Word} → AreTakenBy s n vs ws k us → TakesBy s k us w j next → AreTakenBy s n vs (ws ++ w ∷ []) j next
taken_more none_taken t = more_taken t none_taken
taken_more (more_taken u r) t = more_taken u (taken_more r t)

-- and back
pub last_taken : {s z : Counting} {n k j : ℕ} {vs us next : List Open} {w : Word} (ws : List Word) → AreTakenBy z n vs ws k us → AreTakenBy s n vs (ws ++ w ∷ []) j next → TakesBy s k us w j next
last_taken [] none_taken (more_taken t none_taken) = t
last_taken {s = s} {n = n} {j = j} {vs = vs} {next = next} {w = w} (v ∷ ws) (more_taken {k = a} {next = x} t r) (more_taken {k = b} {next = y} u q) =
    let one = one_next n vs v a b x y t u in
    last_taken ws r (subst (λ (i : ℕ). AreTakenBy s i x (ws ++ w ∷ []) j next) (sym one.0) (subst (λ (xs : List Open). AreTakenBy s b xs (ws ++ w ∷ []) j next) (sym one.1) q))

-- what holds where all levels count holds where fewer do
pub may_hold_so : (t : Test) (m n : ℕ) → holds t m n ≡ true → may_hold t ≡ true
may_hold_so Never m n e = absurd (cc (e))
may_hold_so Always m n e = refl
may_hold_so HasLevel m n e = refl
may_hold_so HasRoom m n e = refl
may_hold_so GoesOn m n e = refl

either_so : (b x y : Bool) → x ≡ true → y ≡ true → (if b then x else y) ≡ true
either_so true x y e f = e
either_so false x y e f = f

pub passes_more : (s : Counting) (p : Part) (t : Test) (m n : ℕ) → holds t m n ≡ true → passes s p t m n ≡ true
passes_more every_level p t m n e = e
passes_more (all_but c) p t m n e = either_so (is_this c (levels_in p)) (may_hold t) (holds t m n) (may_hold_so t m n e) e
passes_more no_level p t m n e = may_hold_so t m n e

pub takes_more : {n k : ℕ} {vs next : List Open} {w : Word} (s : Counting) → Takes n vs w k next → TakesBy s n vs w k next
takes_more s (takes_word e) = takes_word e
takes_more s (takes_row {n = n} {m = m} {p = p} {t = t} e h) = takes_row e (passes_more s p t m n h)
takes_more s (takes_other {n = n} {m = m} {p = p} {t = t} e o h r) = takes_other e o (passes_more s p t m n h) (takes_more s r)
takes_more s (takes_level r) = takes_level (takes_more s r)

pub all_more : {n k : ℕ} {vs next : List Open} {ws : List Word} (s : Counting) → AreTaken n vs ws k next → AreTakenBy s n vs ws k next
all_more s none_taken = none_taken
all_more s (more_taken t r) = more_taken (takes_more s t) (all_more s r)

-- words that are taken read on
reads_on : {n k : ℕ} {vs us : List Open} {ws : List Word} (rest : List Word) → AreTaken n vs ws k us → Reads k us rest → Reads n vs (ws ++ rest)
reads_on rest none_taken r = r
reads_on rest (more_taken t q) r = reads_word t (reads_on rest q r)

pub lettered_both : (us ws : List Word) → AreLettered us → AreLettered ws → AreLettered (us ++ ws)
lettered_both [] ws h g = g
lettered_both (u ∷ us) ws h g = (h.0, lettered_both us ws h.1 g)

-- where all levels count the words that go on are those of a file
pub goes_file : (ws : List Word) → AreLettered ws → GoesBy every_level ws → GoOn IsFileWords ws
goes_file ws l g =
    let e = ends g.1 (closes_behind g.2 refl) in
    (e.words, file_spelled pairs_alone (ws ++ e.words) (lettered_both ws e.words l e.lettered) (reads_on e.words g.2 (e.reads g.0)))

front_taken : (n : ℕ) (vs : List Open) (ws rest : List Word) → Reads n vs (ws ++ rest) → (k : ℕ) × (us : List Open) × AreTaken n vs ws k us
front_taken n vs [] rest r = (n, vs, none_taken)
front_taken n vs (w ∷ ws) rest r =
    let t = taken_first r in
    let more = front_taken t.0 t.1 ws rest t.3 in
    (more.0, more.1, more_taken t.2 more.2)

pub file_goes : (ws : List Word) → GoOn IsFileWords ws → GoesBy every_level ws
file_goes ws h = front_taken 0 file ws h.0 (file_follows (ws ++ h.0) h.1)

-- two of which the levels don't count are no two
abbrev pub Apart : Nested → Nested → Type 0
Apart c d = (o : Option Nested) → is_this c o ≡ true → is_this d o ≡ true → ⊥

by_one : (b x h : Bool) → (b ≡ true → ⊥) → (if b then x else h) ≡ true → h ≡ true
by_one true x h f e = absurd (f refl)
by_one false x h f e = e

counts : (c d : Nested) (p : Part) (t : Test) (m n : ℕ) → Apart c d → passes (all_but c) p t m n ≡ true → passes (all_but d) p t m n ≡ true → holds t m n ≡ true
counts c d p t m n a e f = by (is_this c (levels_in p)) refl
  where
    by : (b : Bool) → is_this c (levels_in p) ≡ b → holds t m n ≡ true
    by true g = by_one (is_this d (levels_in p)) (may_hold t) (holds t m n) (a (levels_in p) g) f
    by false g = by_one (is_this c (levels_in p)) (may_hold t) (holds t m n) (λ h. absurd (cc (g, h))) e

-- what is taken where the levels of the one don't count, and where those of the other don't, is taken where all count
takes_both : {c d : Nested} {n j k : ℕ} {vs a b : List Open} {w : Word} → Apart c d → TakesBy (all_but c) n vs w j a → TakesBy (all_but d) n vs w k b → Takes n vs w j a
takes_both q (takes_word e) (takes_word f) = takes_word e
takes_both q (takes_word e) (takes_row f h) = absurd (cc)
takes_both q (takes_word e) (takes_other f o h t) = absurd (cc)
takes_both q (takes_word e) (takes_level t) = absurd (cc)
takes_both q (takes_row e h) (takes_word f) = absurd (cc)
takes_both {c = c} {d = d} q (takes_row {n = n} {m = m} {p = p} {t = t} {w = w} e h) (takes_row f g) =
    takes_row e (counts c d p t m n q h (subst (λ (x : Test). passes (all_but d) p x m n ≡ true) (one_test (row p w) e f) g))
takes_both q (takes_row e h) (takes_other f o g t) = absurd (cc)
takes_both q (takes_other e o h t) (takes_word f) = absurd (cc)
takes_both q (takes_other e o h t) (takes_row f g) = absurd (cc)
takes_both {c = c} {d = d} {k = k} {b = b} q (takes_other {n = n} {m = m} {p = p} {t = t} {other = x} {vs = us} {w = w} e o h r) (takes_other f i g s) =
    takes_other e o (counts c d p t m n q h (subst (λ (y : Test). passes (all_but d) p y m n ≡ true) (one_test (otherwise p) o i) g))
    (takes_both q r (subst (λ (y : List Wanted). TakesBy (all_but d) n (all_opened m n y ++ us) w k b) (one_list (otherwise p) o i) s))
takes_both q (takes_level t) (takes_word f) = absurd (cc)
takes_both q (takes_level t) (takes_level s) = takes_level (takes_both q t s)

taken_both : {c d : Nested} {n j k : ℕ} {vs a b : List Open} {ws : List Word} → Apart c d → AreTakenBy (all_but c) n vs ws j a → AreTakenBy (all_but d) n vs ws k b → AreTaken n vs ws j a
taken_both q none_taken none_taken = none_taken
taken_both {d = d} {n = n} {k = k} {vs = vs} {b = b} q (more_taken {k = i} {next = x} {w = w} {ws = ws} t r) (more_taken {k = h} {next = y} u s) =
    let one = one_next n vs w i h x y t u in
    more_taken (takes_both q t u) (taken_both q r (subst (λ (g : ℕ). AreTakenBy (all_but d) g x ws k b) (sym one.0) (subst (λ (xs : List Open). AreTakenBy (all_but d) h xs ws k b) (sym one.1) s)))

no_both : {c d : Nested} (ws : List Word) → AreLettered ws → Apart c d → IsTooDeep c ws → IsTooDeep d ws → ⊥
no_both ws l q h g = h.isnt (goes_file ws l (h.alone.0, h.alone.1, taken_both q h.alone.2 g.alone.2))

-- of two that aren't the same one alone is told
apart_by : (c d : Nested) → is_this c (Some d) ≡ false → (o : Option Nested) → is_this c o ≡ true → is_this d o ≡ true → ⊥
apart_by ATerm ATerm e o f g = absurd (cc (e))
apart_by ATerm AProcess e (Some ATerm) f g = absurd (cc (g))
apart_by ATerm AProcess e o f g = absurd (cc (f))
apart_by ATerm AFormula e (Some ATerm) f g = absurd (cc (g))
apart_by ATerm AFormula e o f g = absurd (cc (f))
apart_by AProcess ATerm e (Some AProcess) f g = absurd (cc (g))
apart_by AProcess ATerm e o f g = absurd (cc (f))
apart_by AProcess AProcess e o f g = absurd (cc (e))
apart_by AProcess AFormula e (Some AProcess) f g = absurd (cc (g))
apart_by AProcess AFormula e o f g = absurd (cc (f))
apart_by AFormula ATerm e (Some AFormula) f g = absurd (cc (g))
apart_by AFormula ATerm e o f g = absurd (cc (f))
apart_by AFormula AProcess e (Some AFormula) f g = absurd (cc (g))
apart_by AFormula AProcess e o f g = absurd (cc (f))
apart_by AFormula AFormula e o f g = absurd (cc (e))

pub one_nested : (c d : Nested) (ws : List Word) → AreLettered ws → IsTooDeep c ws → IsTooDeep d ws → c ≡ d
one_nested ATerm ATerm ws l h g = refl
one_nested AProcess AProcess ws l h g = refl
one_nested AFormula AFormula ws l h g = refl
one_nested ATerm AProcess ws l h g = absurd (no_both ws l (apart_by ATerm AProcess refl) h g)
one_nested ATerm AFormula ws l h g = absurd (no_both ws l (apart_by ATerm AFormula refl) h g)
one_nested AProcess ATerm ws l h g = absurd (no_both ws l (apart_by AProcess ATerm refl) h g)
one_nested AProcess AFormula ws l h g = absurd (no_both ws l (apart_by AProcess AFormula refl) h g)
one_nested AFormula ATerm ws l h g = absurd (no_both ws l (apart_by AFormula ATerm refl) h g)
one_nested AFormula AProcess ws l h g = absurd (no_both ws l (apart_by AFormula AProcess refl) h g)
