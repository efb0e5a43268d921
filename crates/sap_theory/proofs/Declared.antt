-- The printed declarations make the signature again.
use Rattle.std.proofs.Common.{rules, ◌≡◌, ℕ, Bool, true, false, List, [], ◌∷◌, ◌++◌, Option, Some, None, refl, sym, ap, subst, ◌∙◌}
use Rattle.std.specs.Prelude.{not, ◌||◌, ◌&&◌, nat_eq, map, filter, is_some, if◌then◌else◌}
use Rattle.std.specs.List.{list_any}
use Rattle.std.specs.Option.{option_map_or}
use Rattle.std.specs.Str.{bytes_eq}
use Rattle.std.proofs.lemmas.Slice.Eq.{bytes_eq-Decides}
use Rattle.sap_terms.specs.declared.signature.Symbol.{Symbol}
use Rattle.sap_terms.specs.declared.signature.Builtin.{Builtin}
use Rattle.sap_terms.specs.Signature.{Sig, find_symbol, has_builtin, builtin_symbols, pairs_alone, IsMap, HoldsSymbols, HoldsBuiltins, declared, declared_all, same_bool, is_held_otherwise, first_clash}
use Rattle.sap_grammar.specs.Declarations.{Declaration, of_builtin, of_symbol}
use Rattle.sap_grammar.specs.Signatures.{clash_with, with_declaration, signature_from, clash_from}
use Rattle.sap_theory.specs.SignatureText.{all_builtins, builtins_of, is_among, is_brought, functions_of}
use Rattle.sap_theory.specs.TheoryGrammar.{AreSameSignatures}

same_name : (a b : List ℕ) → bytes_eq a b ≡ true → a ≡ b
same_name a b e = (bytes_eq-Decides a b).0 e

name_same : (a b : List ℕ) → a ≡ b → bytes_eq a b ≡ true
name_same a b e = (bytes_eq-Decides a b).1 e

-- what the first holds, the second holds so too
abbrev pub IsWithin : List Symbol → List Symbol → Type 0
IsWithin ss gs = (x : List ℕ) (y : Symbol) → find_symbol ss x ≡ Some y → find_symbol gs x ≡ Some y

-- the name is held
abbrev Holds : List Symbol → List ℕ → Type 0
Holds ss x = (y : Symbol) × (find_symbol ss x ≡ Some y)

pub find_kept : (ss ts : List Symbol) (x : List ℕ) (y : Symbol) → find_symbol ss x ≡ Some y → find_symbol (ss ++ ts) x ≡ Some y
find_kept [] ts x y e = absurd (cc (e))
find_kept (s ∷ ss) ts x y e = by_name (bytes_eq s.name x) e (find_kept ss ts x y)
  where
    by_name : (c : Bool) → (if c then Some s else find_symbol ss x) ≡ Some y → (find_symbol ss x ≡ Some y → find_symbol (ss ++ ts) x ≡ Some y)
        → (if c then Some s else find_symbol (ss ++ ts) x) ≡ Some y
    by_name true e more = e
    by_name false e more = more e

pub find_last : (P : Type 0) (ss : List Symbol) (s : Symbol) (x : List ℕ) (y : Symbol) → find_symbol (ss ++ s ∷ []) x ≡ Some y → (find_symbol ss x ≡ Some y → P) → (s ≡ y → s.name ≡ x → P) → P
find_last P [] s x y e one two = by_name (bytes_eq s.name x) refl e
  where
    by_name : (c : Bool) → bytes_eq s.name x ≡ c → (if c then Some s else None) ≡ Some y → P
    by_name true f e = two (cc (e)) (same_name s.name x f)
    by_name false f e = absurd (cc (e))
find_last P (u ∷ ss) s x y e one two = by_name (bytes_eq u.name x) refl e (find_last P ss s x y)
  where
    by_name : (c : Bool) → bytes_eq u.name x ≡ c → (if c then Some u else find_symbol (ss ++ s ∷ []) x) ≡ Some y
        → (find_symbol (ss ++ s ∷ []) x ≡ Some y → (find_symbol ss x ≡ Some y → P) → (s ≡ y → s.name ≡ x → P) → P) → P
    by_name true f e more = one (rw f e)
    by_name false f e more = more e (λ h. one (rw f h)) two

-- One symbol.
module _ (gs : List Symbol) where
  within_declared : (ss : List Symbol) (s : Symbol) → IsWithin ss gs → find_symbol gs s.name ≡ Some s → IsWithin (declared ss s.name s.arity s.private) gs
  within_declared ss s w is x y e = by_held (is_some (find_symbol ss s.name)) e
    where
      by_held : (c : Bool) → find_symbol (if c then ss else ss ++ s ∷ []) x ≡ Some y → find_symbol gs x ≡ Some y
      by_held true e = w x y e
      by_held false e = find_last (find_symbol gs x ≡ Some y) ss s x y e (λ h. w x y h) (λ same n.
          subst (λ (z : List ℕ). find_symbol gs z ≡ Some y) n (is ∙ ap Some same))

  within_all : (xs ss : List Symbol) → IsWithin ss gs → HoldsSymbols gs xs → IsWithin (declared_all ss xs) gs
  within_all [] ss w h = w
  within_all (x ∷ xs) ss w h = within_all xs (declared ss x.name x.arity x.private) (within_declared ss x w h.0) h.1

  fits_itself : (s : Symbol) → not (nat_eq s.arity s.arity && same_bool s.private s.private) ≡ false
  fits_itself s = by_privacy s.private (same_number s.arity)
    where
      same_number : (n : ℕ) → nat_eq n n ≡ true
      same_number n = search rules

      by_privacy : (p : Bool) → nat_eq s.arity s.arity ≡ true → not (nat_eq s.arity s.arity && same_bool p p) ≡ false
      by_privacy true e = rw e refl
      by_privacy false e = rw e refl

  fits : (ss : List Symbol) (s : Symbol) → IsWithin ss gs → find_symbol gs s.name ≡ Some s → is_held_otherwise ss s ≡ false
  fits ss s w is = by_found (find_symbol ss s.name) refl
    where
      by_found : (o : Option Symbol) → find_symbol ss s.name ≡ o → option_map_or (λ (u : Symbol). not (nat_eq u.arity s.arity && same_bool u.private s.private)) o false ≡ false
      by_found None e = refl
      by_found (Some u) e =
          let there : find_symbol gs s.name ≡ Some u = w s.name u e in
          let same : s ≡ u = cc (there, is) in
          subst (λ (u : Symbol). not (nat_eq u.arity s.arity && same_bool u.private s.private) ≡ false) same (fits_itself s)

  all_fit : (xs ss : List Symbol) → IsWithin ss gs → HoldsSymbols gs xs → first_clash ss xs ≡ None
  all_fit [] ss w h = refl
  all_fit (x ∷ xs) ss w h = rw (fits ss x w h.0) (all_fit xs ss w h.1)

kept_declared : (ss : List Symbol) (s : Symbol) (x : List ℕ) → Holds ss x → Holds (declared ss s.name s.arity s.private) x
kept_declared ss s x h = by_held (is_some (find_symbol ss s.name))
  where
    by_held : (c : Bool) → Holds (if c then ss else ss ++ s ∷ []) x
    by_held true = h
    by_held false = (h.0, find_kept ss (s ∷ []) x h.0 h.1)

added_last : (ss : List Symbol) (s : Symbol) → find_symbol ss s.name ≡ None → find_symbol (ss ++ s ∷ []) s.name ≡ Some s
added_last [] s e = rw (name_same s.name s.name refl) refl
added_last (u ∷ ss) s e = by_name (bytes_eq u.name s.name) e (added_last ss s)
  where
    by_name : (c : Bool) → (if c then Some u else find_symbol ss s.name) ≡ None → (find_symbol ss s.name ≡ None → find_symbol (ss ++ s ∷ []) s.name ≡ Some s)
        → (if c then Some u else find_symbol (ss ++ s ∷ []) s.name) ≡ Some s
    by_name true e more = absurd (cc (e))
    by_name false e more = more e

now_held : (ss : List Symbol) (s : Symbol) → Holds (declared ss s.name s.arity s.private) s.name
now_held ss s = by_found (find_symbol ss s.name) refl
  where
    by_found : (o : Option Symbol) → find_symbol ss s.name ≡ o → Holds (if is_some o then ss else ss ++ s ∷ []) s.name
    by_found None e = (s, added_last ss s e)
    by_found (Some u) e = (u, e)

kept_all : (xs ss : List Symbol) (x : List ℕ) → Holds ss x → Holds (declared_all ss xs) x
kept_all [] ss x h = h
kept_all (u ∷ xs) ss x h = kept_all xs (declared ss u.name u.arity u.private) x (kept_declared ss u x h)

all_held : (xs ss : List Symbol) (x : List ℕ) → is_among xs x ≡ true → Holds (declared_all ss xs) x
all_held [] ss x e = absurd (cc (e))
all_held (u ∷ xs) ss x e = by_name (bytes_eq x u.name) refl e (all_held xs (declared ss u.name u.arity u.private) x)
  where
    by_name : (c : Bool) → bytes_eq x u.name ≡ c → (c || is_among xs x) ≡ true → (is_among xs x ≡ true → Holds (declared_all ss (u ∷ xs)) x) → Holds (declared_all ss (u ∷ xs)) x
    by_name true f e more =
        kept_all xs (declared ss u.name u.arity u.private) x (subst (λ (z : List ℕ). Holds (declared ss u.name u.arity u.private) z) (sym (same_name x u.name f)) (now_held ss u))
    by_name false f e more = more e

-- Declarations that are true of a signature.
module _ (gs : List Symbol) where
  abbrev pub IsTrue : Declaration → Type 0
  IsTrue (of_builtin b) = HoldsSymbols gs (builtin_symbols b)
  IsTrue (of_symbol s) = find_symbol gs s.name ≡ Some s

  abbrev pub AreTrue : List Declaration → Type 0
  AreTrue [] = Unit {0}
  AreTrue (d ∷ ds) = IsTrue d × AreTrue ds

  no_clash_with : (h : Sig) (d : Declaration) → IsWithin h.symbols gs → IsTrue d → clash_with h d ≡ None
  no_clash_with h (of_builtin b) w is = all_fit gs (builtin_symbols b) h.symbols w is
  no_clash_with h (of_symbol s) w is = rw (fits gs h.symbols s w is) refl

  still_within : (h : Sig) (d : Declaration) → IsWithin h.symbols gs → IsTrue d → IsWithin (with_declaration h d).symbols gs
  still_within h (of_builtin b) w is = rw (all_fit gs (builtin_symbols b) h.symbols w is) (within_all gs (builtin_symbols b) h.symbols w is)
  still_within h (of_symbol s) w is = within_declared gs h.symbols s w is

  pub true_fit : (ds : List Declaration) (h : Sig) → IsWithin h.symbols gs → AreTrue ds → clash_from h ds ≡ None
  true_fit [] h w is = refl
  true_fit (d ∷ ds) h w is = rw (no_clash_with h d w is.0) (true_fit ds (with_declaration h d) (still_within h d w is.0) is.1)

  pub true_within : (ds : List Declaration) (h : Sig) → IsWithin h.symbols gs → AreTrue ds → IsWithin (signature_from h ds).symbols gs
  true_within [] h w is = w
  true_within (d ∷ ds) h w is = true_within ds (with_declaration h d) (still_within h d w is.0) is.1

  -- the declaration brings the name
  abbrev brings : List ℕ → Declaration → Bool
  brings x (of_builtin b) = is_among (builtin_symbols b) x
  brings x (of_symbol s) = bytes_eq x s.name

  held_still : (h : Sig) (d : Declaration) (x : List ℕ) → IsWithin h.symbols gs → IsTrue d → Holds h.symbols x → Holds (with_declaration h d).symbols x
  held_still h (of_builtin b) x w is k = rw (all_fit gs (builtin_symbols b) h.symbols w is) (kept_all (builtin_symbols b) h.symbols x k)
  held_still h (of_symbol s) x w is k = kept_declared h.symbols s x k

  held_now : (h : Sig) (d : Declaration) (x : List ℕ) → IsWithin h.symbols gs → IsTrue d → brings x d ≡ true → Holds (with_declaration h d).symbols x
  held_now h (of_builtin b) x w is e = rw (all_fit gs (builtin_symbols b) h.symbols w is) (all_held (builtin_symbols b) h.symbols x e)
  held_now h (of_symbol s) x w is e = subst (λ (z : List ℕ). Holds (declared h.symbols s.name s.arity s.private) z) (sym (same_name x s.name e)) (now_held h.symbols s)

  all_still : (ds : List Declaration) (h : Sig) (x : List ℕ) → IsWithin h.symbols gs → AreTrue ds → Holds h.symbols x → Holds (signature_from h ds).symbols x
  all_still [] h x w is k = k
  all_still (d ∷ ds) h x w is k = all_still ds (with_declaration h d) x (still_within h d w is.0) is.1 (held_still h d x w is.0 k)

  all_brought : (ds : List Declaration) (h : Sig) (x : List ℕ) → IsWithin h.symbols gs → AreTrue ds → list_any (brings x) ds ≡ true → Holds (signature_from h ds).symbols x
  all_brought [] h x w is e = absurd (cc (e))
  all_brought (d ∷ ds) h x w is e = by_first (brings x d) refl e (all_brought ds (with_declaration h d) x (still_within h d w is.0) is.1)
    where
      by_first : (c : Bool) → brings x d ≡ c → (c || list_any (brings x) ds) ≡ true → (list_any (brings x) ds ≡ true → Holds (signature_from h (d ∷ ds)).symbols x) → Holds (signature_from h (d ∷ ds)).symbols x
      by_first true f e more = all_still ds (with_declaration h d) x (still_within h d w is.0) is.1 (held_now h d x w is.0 f)
      by_first false f e more = more e

-- A map finds each of its symbols.
held_behind : (s : Symbol) (ss xs : List Symbol) → find_symbol ss s.name ≡ None → HoldsSymbols ss xs → HoldsSymbols (s ∷ ss) xs
held_behind s ss [] e h = tt
held_behind s ss (x ∷ xs) e h = (by_name (bytes_eq s.name x.name) refl, held_behind s ss xs e h.1)
  where
    by_name : (c : Bool) → bytes_eq s.name x.name ≡ c → (if c then Some s else find_symbol ss x.name) ≡ Some x
    by_name true f = absurd (let none : find_symbol ss x.name ≡ None = subst (λ (z : List ℕ). find_symbol ss z ≡ None) (same_name s.name x.name f) e in let some = h.0 in cc (none, some))
    by_name false f = h.0

pub map_holds : (ss : List Symbol) → IsMap ss → HoldsSymbols ss ss
map_holds [] m = tt
map_holds (s ∷ ss) m = (rw (name_same s.name s.name refl) refl, held_behind s ss ss m.0 (map_holds ss m.1))

symbols_true : (gs : List Symbol) (p : Symbol → Bool) (ss : List Symbol) → HoldsSymbols gs ss → AreTrue gs (map of_symbol (filter p ss))
symbols_true gs p [] h = tt
symbols_true gs p (s ∷ ss) h = by_test (p s) (symbols_true gs p ss h.1)
  where
    by_test : (c : Bool) → AreTrue gs (map of_symbol (filter p ss)) → AreTrue gs (map of_symbol (if c then s ∷ filter p ss else filter p ss))
    by_test true more = (h.0, more)
    by_test false more = more

builtins_true : (g : Sig) → HoldsBuiltins g → (bs : List Builtin) (ds : List Declaration) → AreTrue g.symbols ds → AreTrue g.symbols (map of_builtin (filter (has_builtin g) bs) ++ ds)
builtins_true g h [] ds is = is
builtins_true g h (b ∷ bs) ds is = by_test (has_builtin g b) refl (builtins_true g h bs ds is)
  where
    by_test : (c : Bool) → has_builtin g b ≡ c → AreTrue g.symbols (map of_builtin (filter (has_builtin g) bs) ++ ds)
        → AreTrue g.symbols (map of_builtin (if c then b ∷ filter (has_builtin g) bs else filter (has_builtin g) bs) ++ ds)
    by_test true e more = (h b e, more)
    by_test false e more = more

-- What is declared of a signature that holds pairs and its builtins.
abbrev pub declarations_of : Sig → List Declaration
declarations_of g = map of_builtin (builtins_of g) ++ map of_symbol (functions_of g)

module _ (g : Sig) (is_map : IsMap g.symbols) (builtins : HoldsBuiltins g) (pairs : IsWithin pairs_alone.symbols g.symbols) where
  declarations_true : AreTrue g.symbols (declarations_of g)
  declarations_true =
      builtins_true g builtins all_builtins (map of_symbol (functions_of g)) (symbols_true g.symbols (λ (s : Symbol). not (is_brought g s.name)) g.symbols (map_holds g.symbols is_map))

  pub printed_fit : clash_from pairs_alone (declarations_of g) ≡ None
  printed_fit = true_fit g.symbols (declarations_of g) pairs_alone pairs declarations_true

  result : Sig
  result = signature_from pairs_alone (declarations_of g)

  brought_by : (x : List ℕ) → list_any (brings g.symbols x) (declarations_of g) ≡ true → Holds result.symbols x
  unfolding result
  brought_by x e = all_brought g.symbols (declarations_of g) pairs_alone x pairs declarations_true e

  builtins_bring : (x : List ℕ) (bs : List Builtin) (ds : List Declaration) → list_any (λ (b : Builtin). is_among (builtin_symbols b) x) bs ≡ true
      → list_any (brings g.symbols x) (map of_builtin bs ++ ds) ≡ true
  builtins_bring x [] ds e = absurd (cc (e))
  builtins_bring x (b ∷ bs) ds e = by_first (is_among (builtin_symbols b) x) e (builtins_bring x bs ds)
    where
      by_first : (c : Bool) → (c || list_any (λ (b : Builtin). is_among (builtin_symbols b) x) bs) ≡ true
          → (list_any (λ (b : Builtin). is_among (builtin_symbols b) x) bs ≡ true → list_any (brings g.symbols x) (map of_builtin bs ++ ds) ≡ true)
          → (c || list_any (brings g.symbols x) (map of_builtin bs ++ ds)) ≡ true
      by_first true e more = refl
      by_first false e more = more e

  behind_builtins : (x : List ℕ) (bs : List Builtin) (ds : List Declaration) → list_any (brings g.symbols x) ds ≡ true → list_any (brings g.symbols x) (map of_builtin bs ++ ds) ≡ true
  behind_builtins x [] ds e = e
  behind_builtins x (b ∷ bs) ds e = by_first (is_among (builtin_symbols b) x) (behind_builtins x bs ds e)
    where
      by_first : (c : Bool) → list_any (brings g.symbols x) (map of_builtin bs ++ ds) ≡ true → (c || list_any (brings g.symbols x) (map of_builtin bs ++ ds)) ≡ true
      by_first true e = refl
      by_first false e = e

  functions_bring : (x : List ℕ) (y : Symbol) → is_brought g x ≡ false → (ss : List Symbol) → find_symbol ss x ≡ Some y
      → list_any (brings g.symbols x) (map of_symbol (filter (λ (s : Symbol). not (is_brought g s.name)) ss)) ≡ true
  functions_bring x y free [] e = absurd (cc (e))
  functions_bring x y free (s ∷ ss) e = by_name (bytes_eq s.name x) refl e (functions_bring x y free ss)
    where
      kept : s.name ≡ x → list_any (brings g.symbols x) (map of_symbol (filter (λ (s : Symbol). not (is_brought g s.name)) (s ∷ ss))) ≡ true
      kept same =
          let test : not (is_brought g s.name) ≡ true = subst (λ (z : List ℕ). not (is_brought g z) ≡ true) (sym same) (ap not free) in
          let here : bytes_eq x s.name ≡ true = name_same x s.name (sym same) in
          rw (test, here) refl

      passed : (c : Bool) → list_any (brings g.symbols x) (map of_symbol (filter (λ (s : Symbol). not (is_brought g s.name)) ss)) ≡ true
          → list_any (brings g.symbols x) (map of_symbol (if c then s ∷ filter (λ (s : Symbol). not (is_brought g s.name)) ss else filter (λ (s : Symbol). not (is_brought g s.name)) ss)) ≡ true
      passed true more = or_more (bytes_eq x s.name) more
        where
          or_more : (c : Bool) {d : Bool} → d ≡ true → (c || d) ≡ true
          or_more true e = refl
          or_more false e = e
      passed false more = more

      by_name : (c : Bool) → bytes_eq s.name x ≡ c → (if c then Some s else find_symbol ss x) ≡ Some y
          → (find_symbol ss x ≡ Some y → list_any (brings g.symbols x) (map of_symbol (filter (λ (s : Symbol). not (is_brought g s.name)) ss)) ≡ true)
          → list_any (brings g.symbols x) (map of_symbol (filter (λ (s : Symbol). not (is_brought g s.name)) (s ∷ ss))) ≡ true
      by_name true f e more = kept (same_name s.name x f)
      by_name false f e more = passed (not (is_brought g s.name)) (more e)

  all_there : (x : List ℕ) (y : Symbol) → find_symbol g.symbols x ≡ Some y → Holds result.symbols x
  unfolding result
  all_there x y e = by_pairs (is_among pairs_alone.symbols x) refl (list_any (λ (b : Builtin). is_among (builtin_symbols b) x) (builtins_of g)) refl
    where
      by_pairs : (c : Bool) → is_among pairs_alone.symbols x ≡ c → (d : Bool) → list_any (λ (b : Builtin). is_among (builtin_symbols b) x) (builtins_of g) ≡ d → Holds result.symbols x
      by_pairs true p d b = all_still g.symbols (declarations_of g) pairs_alone x pairs declarations_true (all_held pairs_alone.symbols [] x p)
      by_pairs false p true b = brought_by x (builtins_bring x (builtins_of g) (map of_symbol (functions_of g)) b)
      by_pairs false p false b =
          let free : is_brought g x ≡ false = rw (p, b) refl in
          brought_by x (behind_builtins x (builtins_of g) (map of_symbol (functions_of g)) (functions_bring x y free g.symbols e))

  same_symbols : (x : List ℕ) → find_symbol g.symbols x ≡ find_symbol result.symbols x
  unfolding result
  same_symbols x = by_found (find_symbol g.symbols x) refl (find_symbol result.symbols x) refl
    where
      within : IsWithin result.symbols g.symbols
      within = true_within g.symbols (declarations_of g) pairs_alone pairs declarations_true

      by_found : (o : Option Symbol) → find_symbol g.symbols x ≡ o → (p : Option Symbol) → find_symbol result.symbols x ≡ p → o ≡ p
      by_found None e None f = refl
      by_found None e (Some w) f = absurd (let there = within x w f in cc (e, there))
      by_found (Some y) e None f = absurd (let there = all_there x y e in let is = there.1 in cc (f, is))
      by_found (Some y) e (Some w) f = let there = within x w f in cc (e, there)

signature_append : (h : Sig) (ds es : List Declaration) → signature_from h (ds ++ es) ≡ signature_from (signature_from h ds) es
signature_append h [] es = refl
signature_append h (d ∷ ds) es = signature_append (with_declaration h d) ds es

symbols_alone : (h : Sig) (ss : List Symbol) → (signature_from h (map of_symbol ss)).builtins ≡ h.builtins
symbols_alone h [] = refl
symbols_alone h (s ∷ ss) = symbols_alone (record { symbols = declared h.symbols s.name s.arity s.private; builtins = h.builtins }) ss

flags : (ss : List Symbol) (a b c d e : Bool)
    → (signature_from pairs_alone (map of_builtin (builtins_of (record { symbols = ss; builtins = record { hashing = a; symmetric = b; asymmetric = c; signing = d; revealing = e } })))).builtins
    ≡ record { hashing = a; symmetric = b; asymmetric = c; signing = d; revealing = e }
flags ss false false false false false = refl
flags ss false false false false true = refl
flags ss false false false true false = refl
flags ss false false false true true = refl
flags ss false false true false false = refl
flags ss false false true false true = refl
flags ss false false true true false = refl
flags ss false false true true true = refl
flags ss false true false false false = refl
flags ss false true false false true = refl
flags ss false true false true false = refl
flags ss false true false true true = refl
flags ss false true true false false = refl
flags ss false true true false true = refl
flags ss false true true true false = refl
flags ss false true true true true = refl
flags ss true false false false false = refl
flags ss true false false false true = refl
flags ss true false false true false = refl
flags ss true false false true true = refl
flags ss true false true false false = refl
flags ss true false true false true = refl
flags ss true false true true false = refl
flags ss true false true true true = refl
flags ss true true false false false = refl
flags ss true true false false true = refl
flags ss true true false true false = refl
flags ss true true false true true = refl
flags ss true true true false false = refl
flags ss true true true false true = refl
flags ss true true true true false = refl
flags ss true true true true true = refl

-- what is printed of a signature makes the same signature again
pub same_again : (g : Sig) → IsMap g.symbols → HoldsBuiltins g → IsWithin pairs_alone.symbols g.symbols → AreSameSignatures g (signature_from pairs_alone (declarations_of g))
unfolding result
same_again g is_map builtins pairs = record {
  symbols = λ x. same_symbols g is_map builtins pairs x;
  builtins = sym (
      ap (λ (h : Sig). h.builtins) (signature_append pairs_alone (map of_builtin (builtins_of g)) (map of_symbol (functions_of g)))
      ∙ (symbols_alone (signature_from pairs_alone (map of_builtin (builtins_of g))) (functions_of g)
      ∙ flags g.symbols g.builtins.hashing g.builtins.symmetric g.builtins.asymmetric g.builtins.signing g.builtins.revealing));
}
