-- Items of builtins and functions are read as what they declare.
use Rattle.std.proofs.Common.{◌≡◌, ◌≤◌, ◌+◌, ℕ, Bool, true, false, List, [], ◌∷◌, length, drop, Option, Some, None, refl, sym, ap, subst, ◌∙◌, arith}
use Rattle.std.specs.Prelude.{codes, if◌then◌else◌, map, option_map}
use Rattle.sap_terms.specs.declared.signature.Symbol.{Symbol}
use Rattle.sap_terms.specs.declared.signature.Builtin.{Builtin}
use Rattle.sap_grammar.specs.Words.{Word, mark, starts}
use Rattle.sap_grammar.specs.Declarations.{Declaration, of_builtin, of_symbol, AreBuiltins, AreSymbols, Declares, declares_builtins, declares_functions}
use Rattle.sap_grammar.specs.ItemReading.{builtin_at, symbol_at, declaration_at, whole_list, behind_colon, declared_in}
use Rattle.sap_grammar.proofs.ReadingLaws.OnRead.{starts_is}
use Rattle.sap_grammar.proofs.ItemWords.{builtins_read, symbols_read, builtins_sound, symbols_sound, list_mapped}

pub builtins_declared : {bs : List Builtin} {a : List Word} → AreBuiltins bs a → (n : ℕ) → length a ≤ n → whole_list (declaration_at true) n a ≡ Some (map of_builtin bs)
builtins_declared {a = a} r n le = list_mapped of_builtin builtin_at n a ∙ ap (λ (o : Option (List Builtin)). option_map (map of_builtin) o) (builtins_read r n le)

pub symbols_declared : {ss : List Symbol} {a : List Word} → AreSymbols ss a → (n : ℕ) → length a ≤ n → whole_list (declaration_at false) n a ≡ Some (map of_symbol ss)
symbols_declared {a = a} r n le = list_mapped of_symbol symbol_at n a ∙ ap (λ (o : Option (List Symbol)). option_map (map of_symbol) o) (symbols_read r n le)

-- what is spelled so is read
pub declared_complete : (ws : List Word) (ds : List Declaration) → Declares ws ds → declared_in ws ≡ Some ds
declared_complete _ _ (declares_builtins {a = a} r) = builtins_declared r (length a + 1) (omega arith)
declared_complete _ _ (declares_functions {a = a} r) = symbols_declared r (length a + 1) (omega arith)

-- the words of an item behind its colon, read whole
colon_is : (m : List ℕ) (of_builtins : Bool) (ws : List Word) (ds : List Declaration) → starts m ws ≡ true → behind_colon of_builtins (drop 1 ws) ≡ Some ds
    → (a : List Word) × (ws ≡ mark m ∷ mark (codes ":") ∷ a) × (whole_list (declaration_at of_builtins) (length a + 1) a ≡ Some ds)
colon_is m of_builtins [] ds s e = absurd (cc)
colon_is m of_builtins (w ∷ []) ds s e = absurd (cc)
colon_is m of_builtins (w ∷ v ∷ ws) ds s e = by_test (starts (codes ":") (v ∷ ws)) refl e
  where
    by_test : (c : Bool) → starts (codes ":") (v ∷ ws) ≡ c → (if c then whole_list (declaration_at of_builtins) (length ws + 1) ws else None) ≡ Some ds
        → (a : List Word) × (w ∷ v ∷ ws ≡ mark m ∷ mark (codes ":") ∷ a) × (whole_list (declaration_at of_builtins) (length a + 1) a ≡ Some ds)
    by_test true f e =
        let first = starts_is m (w ∷ v ∷ ws) s in
        let second = starts_is (codes ":") (v ∷ ws) f in
        (ws, cc, e)
    by_test false f e = absurd (cc)

told_is : (es ds : List Declaration) → Some es ≡ Some ds → es ≡ ds
told_is es ds e = cc

-- what is read as declarations is spelled so
pub declared_sound : (ws : List Word) (ds : List Declaration) → declared_in ws ≡ Some ds
    → Declares ws ds
declared_sound ws ds e = by_builtins (starts (codes "builtins") ws) refl e
  where
    of_builtins : (a : List Word) → ws ≡ mark (codes "builtins") ∷ mark (codes ":") ∷ a → (o : Option (List Builtin)) → whole_list builtin_at (length a + 1) a ≡ o
        → option_map (map of_builtin) o ≡ Some ds → Declares ws ds
    of_builtins a is None f e = absurd (cc)
    of_builtins a is (Some bs) f e =
        subst (λ (w : List Word). Declares w ds) (sym is) (subst (λ (es : List Declaration). Declares (mark (codes "builtins") ∷ mark (codes ":") ∷ a) es) (told_is (map of_builtin bs) ds e) (declares_builtins (builtins_sound _ a bs f)))

    of_functions : (a : List Word) → ws ≡ mark (codes "functions") ∷ mark (codes ":") ∷ a → (o : Option (List Symbol)) → whole_list symbol_at (length a + 1) a ≡ o
        → option_map (map of_symbol) o ≡ Some ds → Declares ws ds
    of_functions a is None f e = absurd (cc)
    of_functions a is (Some ss) f e =
        subst (λ (w : List Word). Declares w ds) (sym is) (subst (λ (es : List Declaration). Declares (mark (codes "functions") ∷ mark (codes ":") ∷ a) es) (told_is (map of_symbol ss) ds e) (declares_functions (symbols_sound _ a ss f)))

    by_functions : (c : Bool) → starts (codes "functions") ws ≡ c → (if c then behind_colon false (drop 1 ws) else None) ≡ Some ds → Declares ws ds
    by_functions true s e =
        let one = colon_is (codes "functions") false ws ds s e in
        of_functions one.0 one.1 (whole_list symbol_at (length one.0 + 1) one.0) refl (sym (list_mapped of_symbol symbol_at (length one.0 + 1) one.0) ∙ one.2)
    by_functions false s e = absurd (cc)

    by_builtins : (c : Bool) → starts (codes "builtins") ws ≡ c
        → (if c then behind_colon true (drop 1 ws) else if starts (codes "functions") ws then behind_colon false (drop 1 ws) else None) ≡ Some ds → Declares ws ds
    by_builtins true s e =
        let one = colon_is (codes "builtins") true ws ds s e in
        of_builtins one.0 one.1 (whole_list builtin_at (length one.0 + 1) one.0) refl (sym (list_mapped of_builtin builtin_at (length one.0 + 1) one.0) ∙ one.2)
    by_builtins false s e = by_functions (starts (codes "functions") ws) refl e

pub one_builtins : (bs cs : List Builtin) (a : List Word) → AreBuiltins bs a → AreBuiltins cs a → bs ≡ cs
one_builtins bs cs a r s =
    let same : ◌≡◌ {A = Option (List Builtin)} (Some bs) (Some cs) = sym (builtins_read r (length a) (omega arith)) ∙ builtins_read s (length a) (omega arith) in
    cc

pub one_symbols : (ss us : List Symbol) (a : List Word) → AreSymbols ss a → AreSymbols us a → ss ≡ us
one_symbols ss us a r s =
    let same : ◌≡◌ {A = Option (List Symbol)} (Some ss) (Some us) = sym (symbols_read r (length a) (omega arith)) ∙ symbols_read s (length a) (omega arith) in
    cc
