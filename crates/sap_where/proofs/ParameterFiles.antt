-- A file that is refused for a parameter has a definition that has it twice.
use Rattle.std.proofs.Common.{◌≡◌, ◌≤◌, ◌<◌, ◌+◌, ◌*◌, ℕ, zero, suc, Bool, true, false, List, [], ◌∷◌, ◌++◌, length, drop, refl, sym, ap, subst, ◌∙◌, arith, Option, Some, None, ◌⊎◌, inl, inr, ⊎_elim}
use Rattle.std.specs.Prelude.{◌↔◌, codes, if◌then◌else◌, ◌&&◌, is_some, slice_get}
use Rattle.std.proofs.lemmas.Option.{slice_get_within}
use Rattle.std.specs.Option.{option_or}
use Rattle.sap_terms.proofs.PlainLaws.Known.{clash, in_cases, one_name, own_name}
use Rattle.sap_terms.proofs.PlainLaws.Tests.{and_right}
use Rattle.sap_terms.specs.Signature.{Sig}
use Rattle.sap_terms.specs.Variables.{is_known}
use Rattle.sap_text.specs.declared.token.Token.{Token}
use Rattle.sap_grammar.specs.Words.{Word, mark, name, starts, words_of}
use Rattle.sap_grammar.specs.Reading.{name_at, names}
use Rattle.sap_grammar.specs.Cut.{IsCut, Placed, cut_none, cut_one, first_line, placed, words}
use Rattle.sap_grammar.specs.Items.{items_end, items_more}
use Rattle.sap_macro.specs.MacroCauses.{first_parameter_twice, first_twice}
use Rattle.sap_read.specs.Files.{IsParted}
use Rattle.sap_read.specs.FileProcess.{definitions_of}
use Rattle.sap_read.specs.Item.{Body, Item, Standing, bodies, body_of}
use Rattle.sap_read.specs.ItemGrammar.{AreItems, AreParameters, HasParameters, IsItem, item_builtins, item_definition, item_functions, item_process, item_statement, parameters_last, parameters_more, with_parameters, without_parameters}
use Rattle.sap_where.specs.TokenWords.{is_named, stands}
use Rattle.sap_where.specs.Parameters.{CanBeParameter, IsParameter, goes_on, opens_parameters, parameter_at}
use Rattle.sap_where.proofs.SecondParameter.{first_can, next_can}
use Rattle.sap_where.proofs.CutWords.{behind_header, next_piece, no_items, piece_words, words_behind}

-- the name stands twice among the parameters of one definition
pub record HasTwo (z : List ℕ) (ts : List Token) (x : List ℕ) : Type 0 where
  pub item : ℕ
  pub first : ℕ
  pub second : ℕ
  pub order : first < second
  pub is_first : IsParameter z ts x item first
  pub is_second : IsParameter z ts x item second

none_some : {y : List ℕ} → ◌≡◌ {A = Option (List ℕ)} None (Some y) → ⊥
none_some e = absurd (cc)

some_same : {x y : List ℕ} → ◌≡◌ {A = Option (List ℕ)} (Some x) (Some y) → x ≡ y
some_same e = cc

both : {a b : Bool} → a ≡ true → b ≡ true → (a && b) ≡ true
both {b = b} p q = ap (λ (c : Bool). c && b) p ∙ q

nearest : (n : ℕ) → n ≡ n + 2 * 0
nearest n = omega arith

further : (n k : ℕ) → (n + 2) + 2 * k ≡ n + 2 * suc k
further n k = omega arith

placed_at : (i k : ℕ) → parameter_at i k ≡ (i + 3) + 2 * k
placed_at i k = omega arith

module _ (z : List ℕ) (ts : List Token) where
  -- the words from token k on
  abbrev from : ℕ → List Word
  from k = words_of z (drop k ts)

  behind : (k n : ℕ) (ws : List Word) → from k ≡ ws → from (k + n) ≡ drop n ws
  behind k n ws e = words_behind z ts k n ws e

  module _ (i : ℕ) where
    here : (x : List ℕ) (n : ℕ) (ws : List Word) → CanBeParameter z ts i n → from n ≡ name x ∷ ws → IsParameter z ts x i n
    here x n ws can e = record { can = can; is = subst (λ (vs : List Word). names x vs ≡ true) (sym e) (own_name x) }

    on_words : (x : List ℕ) (n : ℕ) (ws : List Word) → from n ≡ name x ∷ mark (codes ",") ∷ ws → goes_on z ts n ≡ true
    on_words x n ws e =
        both (subst (λ (vs : List Word). is_some (name_at vs) ≡ true) (sym e) refl) (subst (λ (vs : List Word). starts (codes ",") vs ≡ true) (sym (behind n 1 _ e)) refl)

    first_named : (x y : List ℕ) (n : ℕ) (ws : List Word) → from n ≡ name x ∷ ws → x ≡ y → names y (from (n + 2 * 0)) ≡ true
    first_named x y n ws e same =
        subst (λ (k : ℕ). names y (from k) ≡ true) (nearest n)
        (subst (λ (v : List ℕ). names v (from n) ≡ true) same (subst (λ (vs : List Word). names x vs ≡ true) (sym e) (own_name x)))

    is_first : (x y : List ℕ) (n : ℕ) (ws : List Word) → from n ≡ name x ∷ ws → names y (from (n + 2 * 0)) ≡ true → x ≡ y
    is_first x y n ws e is = one_name x y (subst (λ (vs : List Word). names y vs ≡ true) e (subst (λ (k : ℕ). names y (from k) ≡ true) (sym (nearest n)) is))

    known_stands : {xs : List (List ℕ)} {a b : List Word} → AreParameters xs a b → (y : List ℕ) (m : List Word) (n : ℕ) → is_known xs y ≡ true
        → CanBeParameter z ts i n → from n ≡ a ++ m → (q : ℕ) × (n ≤ q) × IsParameter z ts y i q
    known_stands (parameters_last {x = x}) y m n known can e =
        ⊎_elim (λ same. (n, omega arith, subst (λ (v : List ℕ). IsParameter z ts v i n) same (here x n _ can e))) (λ none. clash true refl (sym none)) (in_cases y x [] known)
    known_stands (parameters_more {x = x} {xs = xs} {a = a} s) y m n known can e =
        ⊎_elim (λ same. (n, omega arith, subst (λ (v : List ℕ). IsParameter z ts v i n) same (here x n _ can e)))
        (λ later.
        let r = known_stands s y m (n + 2) later (next_can z ts i n can (on_words x n (a ++ m) e)) (behind n 2 _ e) in
        let le = r.1 in
        (r.0, omega (arith, le), r.2))
        (in_cases y x xs known)

    twice_stand : {xs : List (List ℕ)} {a b : List Word} → AreParameters xs a b → (y : List ℕ) (m : List Word) (n : ℕ) → first_twice xs ≡ Some y
        → CanBeParameter z ts i n → from n ≡ a ++ m → HasTwo z ts y
    twice_stand (parameters_last) y m n twice can e = absurd (none_some twice)
    twice_stand (parameters_more {x = x} {xs = xs} {a = a} s) y m n twice can e =
        by (is_known xs x) refl twice (λ same. twice_stand s y m (n + 2) same (next_can z ts i n can (on_words x n (a ++ m) e)) (behind n 2 _ e))
      where
        by : (t : Bool) → is_known xs x ≡ t → (if t then Some x else first_twice xs) ≡ Some y → (first_twice xs ≡ Some y → HasTwo z ts y) → HasTwo z ts y
        by true known same later =
            let r = known_stands s x m (n + 2) known (next_can z ts i n can (on_words x n (a ++ m) e)) (behind n 2 _ e) in
            let le = r.1 in
            subst (λ (v : List ℕ). HasTwo z ts v) (some_same same)
            (record { item = i; first = n; second = r.0; order = omega (arith, le); is_first = here x n _ can e; is_second = r.2 })
        by false known same later = later same

    opened : (d : List ℕ) (ws : List Word) → from i ≡ mark (codes "let") ∷ name d ∷ mark (codes "(") ∷ ws → opens_parameters z ts i ≡ true
    opened d ws e =
        both (both (subst (λ (vs : List Word). starts (codes "let") vs ≡ true) (sym e) refl) (subst (λ (vs : List Word). is_some (name_at vs) ≡ true) (sym (behind i 1 _ e)) refl))
        (subst (λ (vs : List Word). starts (codes "(") vs ≡ true) (sym (behind i 2 _ e)) refl)

    heading_twice : {xs : List (List ℕ)} {a b : List Word} → HasParameters xs a b → (d y : List ℕ) (m : List Word) → first_twice xs ≡ Some y
        → from i ≡ mark (codes "let") ∷ name d ∷ (a ++ m) → HasTwo z ts y
    heading_twice without_parameters d y m twice e = absurd (none_some twice)
    heading_twice (with_parameters {a = a} s) d y m twice e = twice_stand s y m (i + 3) twice (first_can z ts i (opened d (a ++ m) e)) (behind i 3 _ e)

    -- parameter number l stands there, behind the others with their commas
    stands_at : {xs : List (List ℕ)} {a b : List Word} → AreParameters xs a b → (y : List ℕ) (m : List Word) (n l : ℕ) → from n ≡ a ++ m → slice_get xs l ≡ Some y
        → ((k : ℕ) → k < l → goes_on z ts (n + 2 * k) ≡ true) × (names y (from (n + 2 * l)) ≡ true)
    stands_at (parameters_last {x = x}) y m n zero e is =
        (λ k lt. absurd (omega (arith, lt)), first_named x y n _ e (some_same is))
    stands_at (parameters_last {x = x}) y m n (suc l) e is = let lt = slice_get_within (x ∷ []) (suc l) y is in absurd (omega (arith, lt))
    stands_at (parameters_more {x = x} s) y m n zero e is = (λ k lt. absurd (omega (arith, lt)), first_named x y n _ e (some_same is))
    stands_at (parameters_more {x = x} {xs = xs} {a = a} s) y m n (suc l) e is =
        let r = stands_at s y m (n + 2) l (behind n 2 _ e) is in
        (before r.0, subst (λ (k : ℕ). names y (from k) ≡ true) (further n l) r.1)
      where
        before : ((k : ℕ) → k < l → goes_on z ts ((n + 2) + 2 * k) ≡ true) → (k : ℕ) → k < suc l → goes_on z ts (n + 2 * k) ≡ true
        before f zero lt = subst (λ (k : ℕ). goes_on z ts k ≡ true) (nearest n) (on_words x n (a ++ m) e)
        before f (suc k) lt = subst (λ (j : ℕ). goes_on z ts j ≡ true) (further n k) (f k (omega (arith, lt)))

    -- what stands there so is that parameter
    index_of : {xs : List (List ℕ)} {a b : List Word} → AreParameters xs a b → (y : List ℕ) (m : List Word) (n l : ℕ) → from n ≡ a ++ m
        → ((k : ℕ) → k < l → goes_on z ts (n + 2 * k) ≡ true) → names y (from (n + 2 * l)) ≡ true → slice_get xs l ≡ Some y
    index_of (parameters_last {x = x}) y m n zero e f is = ap Some (is_first x y n _ e is)
    index_of (parameters_last {x = x}) y m n (suc l) e f is =
        let on = subst (λ (k : ℕ). goes_on z ts k ≡ true) (sym (nearest n)) (f 0 (omega arith)) in
        let comma = and_right (is_named z ts n) (stands z ts (codes ",") (n + 1)) on in
        absurd (clash true refl (sym (subst (λ (vs : List Word). starts (codes ",") vs ≡ true) (behind n 1 _ e) comma)))
    index_of (parameters_more {x = x} s) y m n zero e f is = ap Some (is_first x y n _ e is)
    index_of (parameters_more {x = x} s) y m n (suc l) e f is =
        index_of s y m (n + 2) l (behind n 2 _ e) (λ k lt. subst (λ (j : ℕ). goes_on z ts j ≡ true) (sym (further n k)) (f (suc k) (omega (arith, lt))))
        (subst (λ (k : ℕ). names y (from k) ≡ true) (sym (further n l)) is)

    -- where a definition of the grammar begins, its parameters are those of the grammar
    pub parameters_are : {xs : List (List ℕ)} {a b : List Word} → HasParameters xs a b → (d : List ℕ) (m : List Word) → from i ≡ mark (codes "let") ∷ name d ∷ (a ++ m) → (x : List ℕ) (n : ℕ)
        → IsParameter z ts x i n ↔ ((j : ℕ) × (slice_get xs j ≡ Some x) × (n ≡ parameter_at i j))
    parameters_are without_parameters d m e x n = (
      λ p. absurd (clash true refl (sym (subst (λ (vs : List Word). starts (codes "(") vs ≡ true) (behind i 2 _ e) (and_right (stands z ts (codes "let") i && is_named z ts (i + 1)) (stands z ts (codes "(") (i + 2)) p.can.opens)))),
      λ h. let lt = slice_get_within [] h.0 x h.1 in absurd (omega (arith, lt)),
    )
    parameters_are (with_parameters {a = a} s) d m e x n = (
      λ p. (
        p.can.number,
        index_of s x m (i + 3) p.can.number (behind i 3 _ e) (λ k lt. subst (λ (j : ℕ). goes_on z ts j ≡ true) (placed_at i k) (p.can.before k lt))
            (subst (λ (k : ℕ). names x (from k) ≡ true) (p.can.place ∙ placed_at i p.can.number) p.is),
        p.can.place,
      ),
      λ h.
          let r = stands_at s x m (i + 3) h.0 (behind i 3 _ e) h.1 in record {
            can = record {
              opens = opened d (a ++ m) e;
              number = h.0;
              place = h.2;
              before = λ k lt. subst (λ (j : ℕ). goes_on z ts j ≡ true) (sym (placed_at i k)) (r.0 k lt);
            };
            is = subst (λ (k : ℕ). names x (from k) ≡ true) (sym (h.2 ∙ placed_at i h.0)) r.1;
          },
    )

    -- an item has it, or the definitions behind it do
    item_twice : {g : Sig} {v : Item} {ws : List Word} → IsItem g v ws → (m : List Word) (y : List ℕ) (line : ℕ) (bs : List Body) → from i ≡ ws ++ m
        → first_parameter_twice (definitions_of (body_of v line ++ bs)) ≡ Some y → HasTwo z ts y ⊎ (first_parameter_twice (definitions_of bs) ≡ Some y)
    item_twice (item_builtins s) m y line bs e twice = inr twice
    item_twice (item_functions s) m y line bs e twice = inr twice
    item_twice (item_process s) m y line bs e twice = inr twice
    item_twice (item_statement s) m y line bs e twice = inr twice
    item_twice (item_definition {x = d} {xs = xs} h s) m y line bs e twice = by (first_twice xs) refl twice
      where
        by : (o : Option (List ℕ)) → first_twice xs ≡ o → option_or o (first_parameter_twice (definitions_of bs)) ≡ Some y
            → HasTwo z ts y ⊎ (first_parameter_twice (definitions_of bs) ≡ Some y)
        by None is same = inr same
        by (Some v) is same = inl (heading_twice h d y m (is ∙ same) e)

  cut_twice : {g : Sig} {ps : List Placed} {cut : List (List Placed)} {is : List Standing} → IsCut ps cut → AreItems g cut is → (k : ℕ) (y : List ℕ)
      → placed z (drop k ts) ≡ ps → first_parameter_twice (definitions_of (bodies is)) ≡ Some y → HasTwo z ts y
  cut_twice cut_none h k y e twice = absurd (no_items h refl)
  cut_twice (cut_one p ps rest never starts c) (items_end is) k y e twice = absurd (none_some twice)
  cut_twice (cut_one p ps rest never starts c) (items_more {vs = vs} s q) k y e twice =
      ⊎_elim (λ h. h) (λ later. cut_twice c q (k + length (p ∷ ps)) y (next_piece z ts k (p ∷ ps) rest e) later)
      (item_twice k s (words rest) y (first_line (p ∷ ps)) (bodies vs) (piece_words z ts k (p ∷ ps) rest e) twice)

  pub file_twice : {g : Sig} {x : List ℕ} {cut : List (List Placed)} {is : List Standing} → IsParted z ts x cut → AreItems g cut is → (y : List ℕ)
      → first_parameter_twice (definitions_of (bodies is)) ≡ Some y → HasTwo z ts y
  file_twice p q y twice = cut_twice p.items q 3 y (behind_header z ts p.header) twice
