-- A word is taken in one way.
use Rattle.std.proofs.Common.{◌≡◌, ℕ, Bool, true, false, List, [], ◌∷◌, ◌++◌, append_assoc, Option, Some, None, refl, sym, ◌∙◌, ap, subst}
use Rattle.sap_grammar.specs.Words.{Word}
use Rattle.sap_expect.specs.declared.wanted.Change.{Change}
use Rattle.sap_expect.specs.declared.wanted.Limit.{Limit}
use Rattle.sap_expect.specs.declared.wanted.Part.{Part}
use Rattle.sap_expect.specs.declared.wanted.Test.{Test}
use Rattle.sap_expect.specs.FileTable.{Counting, Open, Reads, Takes, TakesBy, Turn, Wanted, all_opened, changed, is_wanted, level, otherwise, part, passes, reads_word, row, takes_level, takes_other, takes_row, takes_word}

-- a turn that is told in two ways
first_of : Option Turn → Test → Test
first_of None t = t
first_of (Some x) t = x.0

second_of : Option Turn → List Wanted → List Wanted
second_of None vs = vs
second_of (Some x) vs = x.1

pub one_test : (o : Option Turn) {t u : Test} {vs us : List Wanted} → o ≡ Some (t, vs) → o ≡ Some (u, us) → u ≡ t
unfolding first_of
one_test o {t = t} {u = u} e f = ap (λ (x : Option Turn). first_of x t) (sym f ∙ e)

pub one_list : (o : Option Turn) {t u : Test} {vs us : List Wanted} → o ≡ Some (t, vs) → o ≡ Some (u, us) → us ≡ vs
unfolding second_of
one_list o {vs = vs} e f = ap (λ (x : Option Turn). second_of x vs) (sym f ∙ e)

-- however levels count
pub one_next : {s z : Counting} (n : ℕ) (vs : List Open) (w : Word) (j k : ℕ) (a b : List Open) → TakesBy s n vs w j a → TakesBy z n vs w k b → (j ≡ k) × (a ≡ b)
one_next n vs w j k a b (takes_word e) (takes_word f) = (refl, refl)
one_next n vs w j k a b (takes_word e) (takes_row f h) = absurd (cc)
one_next n vs w j k a b (takes_word e) (takes_other f o h t) = absurd (cc)
one_next n vs w j k a b (takes_word e) (takes_level t) = absurd (cc)
one_next n vs w j k a b (takes_row e h) (takes_word f) = absurd (cc)
one_next n vs w j k a b (takes_row {m = m} {p = p} {vs = us} e h) (takes_row f g) =
    (refl, ap (λ (x : List Wanted). all_opened m n x ++ us) (one_list (row p w) f e))
one_next n vs w j k a b (takes_row e h) (takes_other f o g t) = absurd (cc)
one_next n vs w j k a b (takes_other e o h t) (takes_word f) = absurd (cc)
one_next n vs w j k a b (takes_other e o h t) (takes_row f g) = absurd (cc)
one_next {z = z} n vs w j k a b (takes_other {m = m} {p = p} {other = x} {vs = us} e o h t) (takes_other f q g s) =
    one_next n (all_opened m n x ++ us) w j k a b t (subst (λ (y : List Wanted). TakesBy z n (all_opened m n y ++ us) w k b) (one_list (otherwise p) o q) s)
one_next n vs w j k a b (takes_level t) (takes_word f) = absurd (cc)
one_next n vs w j k a b (takes_level {k = i} {c = c} {vs = us} t) (takes_level s) = one_next (changed c n i) us w j k a b t s

-- nothing goes on where nothing is wanted
no_takes_of : {s : Counting} (n : ℕ) (vs : List Open) (w : Word) (k : ℕ) (next : List Open) → TakesBy s n vs w k next → ◌≡◌ {A = List Open} vs [] → ⊥
no_takes_of n vs w k next (takes_word e) same = absurd (cc)
no_takes_of n vs w k next (takes_row e h) same = absurd (cc)
no_takes_of n vs w k next (takes_other e o h t) same = absurd (cc)
no_takes_of n vs w k next (takes_level t) same = absurd (cc)

pub no_takes : {s : Counting} (n : ℕ) (w : Word) (k : ℕ) (next : List Open) → TakesBy s n [] w k next → ⊥
no_takes n w k next t = no_takes_of n [] w k next t refl

-- another word than the one that is wanted
pub plain_no : {s : Counting} (n : ℕ) (v : Wanted) (i : ℕ) (vs : List Open) (w : Word) (k : ℕ) (next : List Open) → ((p : Part) (l : Limit) → v ≡ part p l → ⊥)
    → ((c : Change) → v ≡ level c → ⊥) → is_wanted v w ≡ false → TakesBy s n ((v, i) ∷ vs) w k next → ⊥
plain_no n v i vs w k next never nor e (takes_word f) = absurd (cc)
plain_no n v i vs w k next never nor e (takes_row {p = p} {l = l} f h) = never p l refl
plain_no n v i vs w k next never nor e (takes_other {p = p} {l = l} f g h t) = never p l refl
plain_no n v i vs w k next never nor e (takes_level {c = c} t) = nor c refl

-- a word that no row begins, where the part is nothing else
pub part_no : {s : Counting} (n : ℕ) (p : Part) (l : Limit) (m : ℕ) (vs : List Open) (w : Word) (k : ℕ) (next : List Open) → row p w ≡ None → otherwise p ≡ None → TakesBy s n ((part p l, m) ∷ vs) w k next → ⊥
part_no n p l m vs w k next e o (takes_word g) = absurd (cc)
part_no n p l m vs w k next e o (takes_row g h) = absurd (cc)
part_no n p l m vs w k next e o (takes_other g h i t) = absurd (cc)

both : (b : Bool) → b ≡ false → b ≡ true → ⊥
both true e f = absurd (cc)
both false e f = absurd (cc)

-- one that a row begins where it may not
pub row_not : {s : Counting} (n : ℕ) (p : Part) (l : Limit) (m : ℕ) (vs : List Open) (w : Word) (t : Test) (rest : List Wanted) (k : ℕ) (next : List Open) → row p w ≡ Some (t, rest) → passes s p t m n ≡ false
    → TakesBy s n ((part p l, m) ∷ vs) w k next → ⊥
row_not n p l m vs w t rest k next e never (takes_word g) = absurd (cc)
row_not {s = s} n p l m vs w t rest k next e never (takes_row g h) = both _ never (subst (λ (x : Test). passes s p x m n ≡ true) (one_test (row p w) e g) h)
row_not n p l m vs w t rest k next e never (takes_other g h i s) = absurd (cc)

-- where it is something else
pub part_back : {s : Counting} (n : ℕ) (p : Part) (l : Limit) (m : ℕ) (vs : List Open) (w : Word) (k : ℕ) (next : List Open) (t : Test) (x : List Wanted) → row p w ≡ None → otherwise p ≡ Some (t, x)
    → TakesBy s n ((part p l, m) ∷ vs) w k next → (passes s p t m n ≡ true) × TakesBy s n (all_opened m n x ++ vs) w k next
part_back n p l m vs w k next t x e o (takes_word g) = absurd (cc)
part_back n p l m vs w k next t x e o (takes_row g h) = absurd (cc)
part_back {s = s} n p l m vs w k next t x e o (takes_other g h i r) =
    (subst (λ (z : Test). passes s p z m n ≡ true) (one_test (otherwise p) o h) i, subst (λ (z : List Wanted). TakesBy s n (all_opened m n z ++ vs) w k next) (one_list (otherwise p) o h) r)

pub other_not : {s : Counting} (n : ℕ) (p : Part) (l : Limit) (m : ℕ) (vs : List Open) (w : Word) (t : Test) (other : List Wanted) (k : ℕ) (next : List Open) → row p w ≡ None → otherwise p ≡ Some (t, other)
    → passes s p t m n ≡ false → TakesBy s n ((part p l, m) ∷ vs) w k next → ⊥
other_not n p l m vs w t other k next e o never s = both _ never (part_back n p l m vs w k next t other e o s).0

pub level_back : {s : Counting} (n : ℕ) (c : Change) (i : ℕ) (vs : List Open) (w : Word) (k : ℕ) (next : List Open) → TakesBy s n ((level c, i) ∷ vs) w k next → TakesBy s (changed c n i) vs w k next
level_back n c i vs w k next (takes_word g) = absurd (cc)
level_back n c i vs w k next (takes_level t) = t

-- words that go from one to the other: what follows reads on
pub record Goes (n : ℕ) (vs : List Open) (ws : List Word) (k : ℕ) (us : List Open) : Type 0 where
  pub on : (rest : List Word) → Reads k us rest → Reads n vs (ws ++ rest)
  pub back : (rest : List Word) → Reads n vs (ws ++ rest) → Reads k us rest

pub goes_none : (n : ℕ) (vs : List Open) → Goes n vs [] n vs
goes_none n vs = record { on = λ rest r. r; back = λ rest r. r }

-- what reads a word takes it
pub reads_next : (n : ℕ) (vs : List Open) (k : ℕ) (next : List Open) (w : Word) (ws : List Word) → Takes n vs w k next → Reads n vs (w ∷ ws) → Reads k next ws
reads_next n vs k next w ws t (reads_word {k = j} {next = us} s r) =
    let one = one_next n vs w j k us next s t in
    subst (λ (z : List Open). Reads k z ws) one.1 (subst (λ (z : ℕ). Reads z us ws) one.0 r)

pub reads_none : (n : ℕ) (vs : List Open) (w : Word) (ws : List Word) → ((k : ℕ) (next : List Open) → Takes n vs w k next → ⊥) → Reads n vs (w ∷ ws) → ⊥
reads_none n vs w ws f (reads_word {k = k} {next = next} s r) = f k next s

pub goes_more : (n : ℕ) (vs : List Open) (k : ℕ) (us : List Open) (j : ℕ) (next : List Open) (ws : List Word) (w : Word) → Goes n vs ws k us → Takes k us w j next → Goes n vs (ws ++ w ∷ []) j next
goes_more n vs k us j next ws w g t = record {
  on = λ rest r. subst (λ (z : List Word). Reads n vs z) (sym (append_assoc ws (w ∷ []) rest)) (g.on (w ∷ rest) (reads_word t r));
  back = λ rest r. reads_next k us j next w rest t (g.back (w ∷ rest) (subst (λ (z : List Word). Reads n vs z) (append_assoc ws (w ∷ []) rest) r));
}
