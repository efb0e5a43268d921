-- One list of bytes gives one answer.
use Rattle.std.proofs.Common.{◌≡◌, ◌≤◌, ◌+◌, ℕ, suc, Bool, true, false, List, [], ◌∷◌, ◌++◌, append_assoc, length, refl, sym, ap, eq-eqb, subst, ◌∙◌, arith}
use Rattle.std.specs.Prelude.{Err, ◌==◌}
use Rattle.std.specs.List.{list_all}
use Rattle.std.proofs.lemmas.Grind.{common_steps}
use Rattle.std.specs.List.{prefix_len}
use Rattle.std.specs.Char.{is_ascii_alphabetic, is_ascii_digit}
use Rattle.sap_text.specs.declared.token.Kind.{Kind}
use Rattle.sap_text.specs.declared.token.Kind.TheVariants as kind
use Rattle.sap_text.specs.declared.fault.Lex.{Lex}
use Rattle.sap_text.specs.declared.fault.Lex.TheVariants as fault
use Rattle.sap_text.specs.Tokens.{is_blank, is_content, is_inner, is_not_feed, begins_comment, line_feeds, counted, EndsLine, IsToken, ident, number, quoted, symbol, IsLongest, IsSkip, blank, line_comment, block_comment, IsFault, bad_byte, bad_content, open_comment, open_quote, Lexed, IsLexed, ended, skipped, taken, long, failed, Stops}
use Rattle.sap_text.proofs.Splits.{run_is, parts}
use Rattle.sap_text.proofs.Classes.{class, class_of, head, token_class, token_some, same_kind, same_head}
use Rattle.sap_text.proofs.Sound.{content_inner, skip_some}

clash : {A : Type 0} (b : Bool) → b ≡ true → b ≡ false → A
clash b e f = let t : true ≡ false = sym e ∙ f in absurd (cc)

apart : {A : Type 0} (m n : ℕ) → (m == n) ≡ false → m ≡ n → A
apart m n e same = clash (m == n) (eq-eqb m n same) e

abbrev second : List ℕ → ℕ
second [] = 0
second (x ∷ []) = 0
second (x ∷ y ∷ z) = y

stops_feed : (b : List ℕ) → EndsLine b → Stops is_not_feed b
stops_feed [] s = tt
stops_feed (x ∷ b) s = rw s refl

slash : IsToken kind.Symbol (47 ∷ [])
slash = symbol refl

closing : (z b : List ℕ) → (z ++ (42 ∷ 47 ∷ [])) ++ b ≡ z ++ (42 ∷ 47 ∷ b)
closing z b = append_assoc z (42 ∷ 47 ∷ []) b

-- two blanks or comments at one place
same_skip : {p q : List ℕ} (b c : List ℕ) → IsSkip p b → IsSkip q c → p ++ b ≡ q ++ c → length p ≡ length q
same_skip b c (blank e) (blank f) w = refl
same_skip b c (blank {c = x} e) (line_comment f g) w = let same : x ≡ 47 = cc in clash (is_blank x) e (ap is_blank same)
same_skip b c (blank {c = x} e) (block_comment z f) w = let same : x ≡ 47 = cc in clash (is_blank x) e (ap is_blank same)
same_skip b c (line_comment e f) (blank {c = x} g) w = let same : x ≡ 47 = cc in clash (is_blank x) g (ap is_blank same)
same_skip b c (block_comment z e) (blank {c = x} g) w = let same : x ≡ 47 = cc in clash (is_blank x) g (ap is_blank same)
same_skip b c (line_comment {z = z} e f) (line_comment {z = y} g h) w =
    let tails : z ++ b ≡ y ++ c = cc in
    let m = run_is is_not_feed z b e (stops_feed b f) in
    let n = run_is is_not_feed y c g (stops_feed c h) in
    ap (λ k. suc (suc k)) (sym m ∙ (ap (λ q. prefix_len is_not_feed q) tails ∙ n))
same_skip b c (line_comment e f) (block_comment y g) w = apart 47 42 refl (ap second w)
same_skip b c (block_comment y g) (line_comment e f) w = apart 42 47 refl (ap second w)
same_skip b c (block_comment z f) (block_comment y g) w =
    let tails : (z ++ (42 ∷ 47 ∷ [])) ++ b ≡ (y ++ (42 ∷ 47 ∷ [])) ++ c = cc in
    let same : z ++ (42 ∷ 47 ∷ b) ≡ y ++ (42 ∷ 47 ∷ c) = sym (closing z b) ∙ (tails ∙ closing y c) in
    let m : length z ≤ length y = f y c same in
    let n : length y ≤ length z = g z b (sym same) in
    let k : length z ≡ length y = omega (arith, m, n) in
    grind (arith, common_steps)

same_taken : {j k : Kind} {p q : List ℕ} (b c : List ℕ) → IsLongest j p b → IsLongest k q c → p ++ b ≡ q ++ c → length p ≡ length q
same_taken {j = j} {k = k} {p = p} {q = q} b c r s w = omega (arith, r.longest k q c w s.is, s.longest j p b (sym w) r.is)

-- no token begins where a blank or comment does
skip_taken : {A : Type 0} {k : Kind} {p q : List ℕ} (b c : List ℕ) → IsSkip p b → IsLongest k q c → p ++ b ≡ q ++ c → A
skip_taken {k = k} {q = q} b c (blank {c = x} e) s w =
    let h : x ≡ head q = same_head (x ∷ []) q b c w (omega arith) (token_some s.is) in
    four k (sym (token_class s.is) ∙ (ap class (sym h) ∙ blank_class x e))
  where
    blank_class : (x : ℕ) → is_blank x ≡ true → class x ≡ 4
    blank_class x e = grind arith

    four : {A : Type 0} (k : Kind) → class_of k ≡ 4 → A
    four kind.Ident e = absurd (cc)
    four kind.Number e = absurd (cc)
    four kind.Quoted e = absurd (cc)
    four kind.Symbol e = absurd (cc)
skip_taken {q = q} b c (line_comment {z = z} e f) s w = clash (begins_comment (47 ∷ 47 ∷ (z ++ b))) refl (ap begins_comment w ∙ s.no_comment)
skip_taken {q = q} b c (block_comment z f) s w = clash (begins_comment (47 ∷ 42 ∷ ((z ++ (42 ∷ 47 ∷ [])) ++ b))) refl (ap begins_comment w ∙ s.no_comment)

skip_fault : {A : Type 0} {at : ℕ} {p z : List ℕ} {f : Lex} (b : List ℕ) → IsSkip p b → IsFault at z f → p ++ b ≡ z → A
skip_fault b (blank {c = x} e) (bad_byte {c = y} g h i) w = let same : x ≡ y = cc in clash (is_blank x) e (ap is_blank same ∙ g)
skip_fault b (blank {c = x} e) (bad_content u v t c g h i) w = let same : x ≡ 39 = cc in clash (is_blank x) e (ap is_blank same)
skip_fault b (blank {c = x} e) (open_comment g) w = let same : x ≡ 47 = cc in clash (is_blank x) e (ap is_blank same)
skip_fault b (blank {c = x} e) (open_quote g) w = let same : x ≡ 39 = cc in clash (is_blank x) e (ap is_blank same)
skip_fault b (line_comment {z = z} e f) (bad_byte g h i) w = absurd (i kind.Symbol (47 ∷ []) (47 ∷ (z ++ b)) (sym w) slash)
skip_fault b (line_comment e f) (bad_content u v t c g h i) w = apart 47 39 refl (ap head w)
skip_fault b (line_comment e f) (open_comment g) w = apart 47 42 refl (ap second w)
skip_fault b (line_comment e f) (open_quote g) w = apart 47 39 refl (ap head w)
skip_fault b (block_comment z f) (bad_byte g h i) w = absurd (i kind.Symbol (47 ∷ []) (42 ∷ ((z ++ (42 ∷ 47 ∷ [])) ++ b)) (sym w) slash)
skip_fault b (block_comment z f) (bad_content u v t c g h i) w = apart 47 39 refl (ap head w)
skip_fault b (block_comment z f) (open_comment {z = y} g) w =
    let tails : (z ++ (42 ∷ 47 ∷ [])) ++ b ≡ y = cc in absurd (g z b (sym tails ∙ closing z b))
skip_fault b (block_comment z f) (open_quote g) w = apart 47 39 refl (ap head w)

-- a quoted token, from its first byte
quote_of : {k : Kind} {p : List ℕ} (b z : List ℕ) → IsToken k p → p ++ b ≡ 39 ∷ z → (y : List ℕ) × (list_all is_content y ≡ true) × (z ≡ y ++ (39 ∷ b))
quote_of b z (quoted y e) w = (y, e, quote_tail)
  where
    quote_tail : z ≡ y ++ (39 ∷ b)
    quote_tail = let t : (y ++ (39 ∷ [])) ++ b ≡ z = cc in sym t ∙ append_assoc y (39 ∷ []) b
quote_of b z (ident {b = x} e f) w = let same : x ≡ 39 = cc in clash (is_ascii_alphabetic x) e (ap is_ascii_alphabetic same)
quote_of b z (number {b = x} e f) w = let same : x ≡ 39 = cc in clash (is_ascii_digit x) e (ap is_ascii_digit same)
quote_of {p = p} b z (symbol e) w =
    let is : IsToken kind.Symbol p = symbol e in
    let h : head p ≡ 39 = same_head p (39 ∷ []) b z w (token_some is) (omega arith) in
    let t : class (head p) ≡ 3 = token_class is in
    apart 2 3 refl (ap class (sym h) ∙ t)

-- where a content byte may not stand, the content ends
content_ends : {A : Type 0} (y b z v : List ℕ) (c : ℕ) → list_all is_content y ≡ true → list_all is_content z ≡ true → is_content c ≡ false → (c ≡ 39 → ⊥)
    → y ++ (39 ∷ b) ≡ z ++ (c ∷ v) → A
content_ends y b z v c e f g other w =
    let m = run_is is_content y (39 ∷ b) e refl in
    let n = run_is is_content z (c ∷ v) f g in
    let same : length y ≡ length z = sym m ∙ (ap (λ q. prefix_len is_content q) w ∙ n) in
    let p = parts y z (39 ∷ b) (c ∷ v) w same in
    let rest : 39 ∷ b ≡ c ∷ v = p.1 in
    let is : c ≡ 39 = cc in
    absurd (other is)

inner_other : (c : ℕ) (b : List ℕ) → list_all is_inner (c ∷ b) ≡ true → c ≡ 39 → ⊥
inner_other c b e same = let f : list_all is_inner (39 ∷ b) ≡ true = rw same at e in let t : false ≡ true = f in absurd (cc)

taken_fault : {A : Type 0} {at : ℕ} {k : Kind} {p z : List ℕ} {f : Lex} (b : List ℕ) → IsLongest k p b → IsFault at z f → p ++ b ≡ z → A
taken_fault {k = k} {p = p} b s (bad_byte g h i) w = absurd (i k p b (sym w) s.is)
taken_fault b s (bad_content u v t c g h i) w =
    let q = quote_of b (u ++ (c ∷ (v ++ (39 ∷ t)))) s.is w in
    content_ends q.0 b u (v ++ (39 ∷ t)) c q.1 g h (inner_other c v i) (sym q.2)
taken_fault b s (open_comment {z = z} g) w = clash (begins_comment (47 ∷ 42 ∷ z)) refl (ap begins_comment (sym w) ∙ s.no_comment)
taken_fault b s (open_quote {z = z} g) w = let q = quote_of b z s.is w in absurd (g q.0 b q.2 (content_inner q.0 q.1))

all_of : (u v : List ℕ) → list_all is_inner u ≡ true → list_all is_inner v ≡ true → list_all is_inner (u ++ v) ≡ true
all_of [] v e f = f
all_of (x ∷ u) v e f = grind (arith, common_steps, all_of u v)

still_open : {z : List ℕ} (u v t : List ℕ) (n : ℕ) → list_all is_content u ≡ true → list_all is_inner (n ∷ v) ≡ true → ((p q : List ℕ) → z ≡ p ++ (39 ∷ q) → list_all is_inner p ≡ true → ⊥)
    → 39 ∷ (u ++ (n ∷ (v ++ (39 ∷ t)))) ≡ 39 ∷ z → ⊥
still_open {z = z} u v t n g i j w =
    let tails : u ++ (n ∷ (v ++ (39 ∷ t))) ≡ z = cc in
    j (u ++ (n ∷ v)) t (sym tails ∙ sym (append_assoc u (n ∷ v) (39 ∷ t))) (all_of u (n ∷ v) (content_inner u g) i)

-- two faults at one place
same_fault : {at : ℕ} {z y : List ℕ} {f g : Lex} → IsFault at z f → IsFault at y g → z ≡ y → f ≡ g
same_fault (bad_byte a b c) (bad_byte d e f) w = refl
same_fault (bad_byte {c = x} a b c) (bad_content u v t n g h i) w = let same : x ≡ 39 = cc in absurd (b same)
same_fault (bad_byte {c = x} a b c) (open_quote g) w = let same : x ≡ 39 = cc in absurd (b same)
same_fault (bad_byte a b c) (open_comment {z = z} g) w = absurd (c kind.Symbol (47 ∷ []) (42 ∷ z) w slash)
same_fault (bad_content u v t n g h i) (bad_byte {c = x} a b c) w = let same : x ≡ 39 = cc in absurd (b same)
same_fault (open_quote g) (bad_byte {c = x} a b c) w = let same : x ≡ 39 = cc in absurd (b same)
same_fault (open_comment {z = z} g) (bad_byte a b c) w = absurd (c kind.Symbol (47 ∷ []) (42 ∷ z) (sym w) slash)
same_fault {at = at} (bad_content u v t n g h i) (bad_content x y s m j k l) w =
    let tails : u ++ (n ∷ (v ++ (39 ∷ t))) ≡ x ++ (m ∷ (y ++ (39 ∷ s))) = cc in
    let a = run_is is_content u (n ∷ (v ++ (39 ∷ t))) g h in
    let b = run_is is_content x (m ∷ (y ++ (39 ∷ s))) j k in
    ap (λ q. fault.BadByte (at + suc q)) (sym a ∙ (ap (λ q. prefix_len is_content q) tails ∙ b))
same_fault (bad_content u v t n g h i) (open_comment j) w = apart 39 47 refl (ap head w)
same_fault (open_comment j) (bad_content u v t n g h i) w = apart 47 39 refl (ap head w)
same_fault (bad_content u v t n g h i) (open_quote j) w = absurd (still_open u v t n g i j w)
same_fault (open_quote j) (bad_content u v t n g h i) w = absurd (still_open u v t n g i j (sym w))
same_fault (open_comment a) (open_comment b) w = refl
same_fault (open_comment a) (open_quote b) w = apart 47 39 refl (ap head w)
same_fault (open_quote a) (open_comment b) w = apart 39 47 refl (ap head w)
same_fault (open_quote a) (open_quote b) w = refl

fault_some : {at : ℕ} {z : List ℕ} {f : Lex} → IsFault at z f → 1 ≤ length z
fault_some (bad_byte a b c) = omega arith
fault_some (bad_content u v t n g h i) = omega arith
fault_some (open_comment a) = omega arith
fault_some (open_quote a) = omega arith

not_empty : {A : Type 0} (p b : List ℕ) → 1 ≤ length p → [] ≡ p ++ b → A
not_empty [] b le e = absurd (omega (arith, le))
not_empty (x ∷ p) b le e = absurd (cc)

at_same : (m at line : ℕ) (p q b c : List ℕ) (o : Lexed) → p ++ b ≡ q ++ c → length p ≡ length q → IsLexed m (at + length q) (line + line_feeds q) c o → IsLexed m (at + length p) (line + line_feeds p) b o
at_same m at line p q b c o w n r =
    let h = parts p q b c w n in
    subst (λ (y : List ℕ). IsLexed m (at + length y) (line + line_feeds y) b o) (sym h.0) (subst (λ (y : List ℕ). IsLexed m (at + length q) (line + line_feeds q) y o) (sym h.1) r)

at_same_token : (m at line : ℕ) (p q b c : List ℕ) (o : Lexed) → p ++ b ≡ q ++ c → length p ≡ length q → IsLexed m (at + length q) line c o → IsLexed m (at + length p) line b o
at_same_token m at line p q b c o w n r =
    let h = parts p q b c w n in
    subst (λ (y : List ℕ). IsLexed m (at + length y) line b o) (sym h.0) (subst (λ (y : List ℕ). IsLexed m (at + length q) line y o) (sym h.1) r)

taken_kind : {j k : Kind} {p q : List ℕ} (b c : List ℕ) → IsLongest j p b → IsLongest k q c → p ++ b ≡ q ++ c → j ≡ k
taken_kind b c r s w = same_kind b c r.is s.is w

pub one_answer : {m at line : ℕ} {z y : List ℕ} {o u : Lexed} → IsLexed m at line z o → IsLexed m at line y u → z ≡ y → o ≡ u
one_answer ended ended w = refl
one_answer ended (skipped {p = p} {b = b} s r) w = not_empty p b (skip_some s) w
one_answer ended (taken {p = p} {b = b} s le r) w = not_empty p b (token_some s.is) w
one_answer ended (long {p = p} {b = b} s lt) w = not_empty p b (token_some s.is) w
one_answer ended (failed f) w = let n : 1 ≤ length {A = ℕ} [] = subst (λ (q : List ℕ). 1 ≤ length q) (sym w) (fault_some f) in absurd (omega (arith, n))
one_answer (skipped {p = p} {b = b} s r) ended w = not_empty p b (skip_some s) (sym w)
one_answer (taken {p = p} {b = b} s le r) ended w = not_empty p b (token_some s.is) (sym w)
one_answer (long {p = p} {b = b} s lt) ended w = not_empty p b (token_some s.is) (sym w)
one_answer (failed f) ended w = let n : 1 ≤ length {A = ℕ} [] = subst (λ (q : List ℕ). 1 ≤ length q) w (fault_some f) in absurd (omega (arith, n))
one_answer {m = m} {at = at} {line = line} (skipped {p = p} {b = b} s r) (skipped {p = q} {b = c} {o = u} t v) w = one_answer r (at_same m at line p q b c u w (same_skip b c s t w) v) refl
one_answer (skipped {b = b} s r) (taken {b = c} t le v) w = skip_taken b c s t w
one_answer (skipped {b = b} s r) (long {b = c} t lt) w = skip_taken b c s t w
one_answer (skipped {b = b} s r) (failed f) w = skip_fault b s f w
one_answer (taken {b = b} s le r) (skipped {b = c} t v) w = skip_taken c b t s (sym w)
one_answer (long {b = b} s lt) (skipped {b = c} t v) w = skip_taken c b t s (sym w)
one_answer (failed f) (skipped {b = c} t v) w = skip_fault c t f (sym w)
one_answer {m = m} {at = at} {line = line} (taken {k = j} {p = p} {b = b} {o = x} s le r) (taken {k = k} {p = q} {b = c} {o = y} t ge v) w =
    let n : length p ≡ length q = same_taken b c s t w in
    let same : j ≡ k = taken_kind b c s t w in
    let rest : x ≡ y = one_answer r (at_same_token m at line p q b c y w n v) refl in
    cc
one_answer {m = m} (taken {k = j} {p = p} {b = b} s le r) (long {k = k} {p = q} {b = c} t lt) w =
    let n : length p ≡ length q = same_taken b c s t w in
    let same : j ≡ k = taken_kind b c s t w in
    let e : counted j (length p) ≡ counted k (length q) = cc in
    absurd (omega (arith, le, lt, e))
one_answer {m = m} (long {k = j} {p = p} {b = b} s lt) (taken {k = k} {p = q} {b = c} t le r) w =
    let n : length p ≡ length q = same_taken b c s t w in
    let same : j ≡ k = taken_kind b c s t w in
    let e : counted j (length p) ≡ counted k (length q) = cc in
    absurd (omega (arith, le, lt, e))
one_answer (long s lt) (long t gt) w = refl
one_answer (taken {b = b} s le r) (failed f) w = taken_fault b s f w
one_answer (long {b = b} s le) (failed f) w = taken_fault b s f w
one_answer (failed f) (taken {b = b} s le r) w = taken_fault b s f (sym w)
one_answer (failed f) (long {b = b} s le) w = taken_fault b s f (sym w)
one_answer (failed f) (failed g) w = ap Err (same_fault f g w)
