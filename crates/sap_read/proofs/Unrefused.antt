-- What holds of a file whose items no cause refuses.
use Rattle.std.proofs.Common.{◌≡◌, ℕ, List, [], ◌∷◌, ◌++◌, map, Option, Some, None, Bool, true, false, refl, ap, sym, subst}
use Rattle.std.specs.Prelude.{codes, if◌then◌else◌, is_none, is_some, option_map, slice_get}
use Rattle.std.specs.Str.{bytes_eq}
use Rattle.sap_terms.specs.Equations.{pair_name}
use Rattle.sap_terms.specs.declared.signature.Symbol.{Symbol}
use Rattle.sap_restrict.specs.Restrictions.{is_generated}
use Rattle.sap_statements.specs.declared.statement.Statement.{Statement}
use Rattle.sap_statements.specs.Statements.{name_of}
use Rattle.sap_terms.specs.Laws.{BuiltinsStayHeld}
use Rattle.sap_terms.specs.Signature.{Sig, HoldsBuiltins, HoldsSymbols, added, arity_of, builtin_symbols, declared, declared_all, find_symbol, first_clash, pairs_alone, public_symbol}
use Rattle.sap_read.specs.Causes.{cause, first_of, first_repeated, first_taken, labels, unknown_from, unlabelled}
use Rattle.sap_read.specs.Item.{Body}
use Rattle.sap_grammar.specs.Declarations.{Declaration, of_builtin, of_symbol}
use Rattle.sap_grammar.specs.Signatures.{clash_from, clash_with, signature_from, with_declaration}
use Rattle.sap_read.specs.declared.fault.ReadFault.{ReadFault}
use Rattle.sap_read.specs.declared.fault.ReadFault.TheVariants.{DuplicateName, FunctionClash, NoProcess, TwoProcesses, UnknownProcess}

-- where the first of two is nothing, neither is anything
neither : {A : Type 0} (o p : Option A) → (if is_some o then o else p) ≡ None → (o ≡ None) × (p ≡ None)
neither None p h = (refl, h)
neither (Some x) p h = absurd (cc (h))

nothing_in : {A B : Type 0} (f : A → B) (o : Option A) → option_map f o ≡ None → o ≡ None
nothing_in f None h = refl
nothing_in f (Some x) h = absurd (cc (h))

-- declarations don't clash, names of processes are defined once and before they are used, and no name of a restriction or lemma is taken
pub record AreFree (bs : List Body) (ss : List Statement) (clash : Option (List ℕ)) : Type 0 where
  pub known : unknown_from [] bs ≡ None
  pub distinct : first_repeated (labels bs) ≡ None
  pub untaken : first_taken is_generated (map name_of ss) ≡ None
  pub no_clash : clash ≡ None

pub no_cause : (bs : List Body) (ss : List Statement) (clash : Option (List ℕ)) → cause bs ss clash ≡ None → AreFree bs ss clash
no_cause bs ss clash h =
    let none : Option ReadFault = if is_none (slice_get (unlabelled bs) 0) then Some NoProcess else None in
    let two : Option ReadFault = option_map (λ (b : Body). TwoProcesses b.line) (slice_get (unlabelled bs) 1) in
    let unknown : Option ReadFault = option_map UnknownProcess (unknown_from [] bs) in
    let twice : Option ReadFault = option_map DuplicateName (first_repeated (labels bs)) in
    let taken : Option ReadFault = option_map DuplicateName (first_taken is_generated (map name_of ss)) in
    let clashing : Option ReadFault = option_map FunctionClash clash in
    let behind_none = (neither none (first_of (two ∷ unknown ∷ twice ∷ taken ∷ clashing ∷ [])) h).1 in
    let behind_two = (neither two (first_of (unknown ∷ twice ∷ taken ∷ clashing ∷ [])) behind_none).1 in
    let at_unknown = neither unknown (first_of (twice ∷ taken ∷ clashing ∷ [])) behind_two in
    let at_twice = neither twice (first_of (taken ∷ clashing ∷ [])) at_unknown.1 in
    let at_taken = neither taken (first_of (clashing ∷ [])) at_twice.1 in
    let at_clashing = neither clashing None at_taken.1 in
    record {
      known = nothing_in UnknownProcess (unknown_from [] bs) at_unknown.0;
      distinct = nothing_in DuplicateName (first_repeated (labels bs)) at_twice.0;
      untaken = nothing_in DuplicateName (first_taken is_generated (map name_of ss)) at_taken.0;
      no_clash = nothing_in FunctionClash clash at_clashing.0;
    }

-- declarations that don't clash leave the symbols of builtins held
module _ (laws : BuiltinsStayHeld) where
  pub builtins_held : (g : Sig) (ds : List Declaration) → HoldsBuiltins g → clash_from g ds ≡ None → HoldsBuiltins (signature_from g ds)
  builtins_held g [] held h = held
  builtins_held g (of_builtin b ∷ ds) held h =
      let none = neither (first_clash g.symbols (builtin_symbols b)) (clash_from (with_declaration g (of_builtin b)) ds) h in
      let is : with_declaration g (of_builtin b) ≡ added g b = ap (λ o. if is_some o then g else added g b) none.0 in
      builtins_held (with_declaration g (of_builtin b)) ds (subst HoldsBuiltins (sym is) (laws.behind_builtin g b held none.0)) none.1
  builtins_held g (of_symbol s ∷ ds) held h =
      let none = neither (clash_with g (of_symbol s)) (clash_from (with_declaration g (of_symbol s)) ds) h in
      builtins_held (with_declaration g (of_symbol s)) ds (laws.behind_symbol g s held) none.1

-- Symbols that are held stay held, whatever is declared or added.

find_push : (ss : List Symbol) (x s : Symbol) (n : List ℕ) → find_symbol ss n ≡ Some s → find_symbol (ss ++ x ∷ []) n ≡ Some s
find_push [] x s n h = absurd (cc (h))
find_push (t ∷ ss) x s n h = by (bytes_eq t.name n) h (find_push ss x s n)
  where
    by : (b : Bool) → (if b then Some t else find_symbol ss n) ≡ Some s → (find_symbol ss n ≡ Some s → find_symbol (ss ++ x ∷ []) n ≡ Some s)
        → (if b then Some t else find_symbol (ss ++ x ∷ []) n) ≡ Some s
    by true e later = e
    by false e later = later e

behind_declared : (ss : List Symbol) (m : List ℕ) (a : ℕ) (p : Bool) (s : Symbol) (n : List ℕ) → find_symbol ss n ≡ Some s → find_symbol (declared ss m a p) n ≡ Some s
behind_declared ss m a p s n h = by (is_some (find_symbol ss m))
  where
    by : (b : Bool) → find_symbol (if b then ss else ss ++ record { name = m; arity = a; private = p } ∷ []) n ≡ Some s
    by true = h
    by false = find_push ss (record { name = m; arity = a; private = p }) s n h

behind_all : (ss xs : List Symbol) (s : Symbol) (n : List ℕ) → find_symbol ss n ≡ Some s → find_symbol (declared_all ss xs) n ≡ Some s
behind_all ss [] s n h = h
behind_all ss (x ∷ xs) s n h = behind_all (declared ss x.name x.arity x.private) xs s n (behind_declared ss x.name x.arity x.private s n h)

behind_declaration : (g : Sig) (d : Declaration) (s : Symbol) (n : List ℕ) → find_symbol g.symbols n ≡ Some s → find_symbol (with_declaration g d).symbols n ≡ Some s
behind_declaration g (of_symbol x) s n h = behind_declared g.symbols x.name x.arity x.private s n h
behind_declaration g (of_builtin b) s n h = by (is_some (first_clash g.symbols (builtin_symbols b)))
  where
    by : (t : Bool) → find_symbol (if t then g else added g b).symbols n ≡ Some s
    by true = h
    by false = behind_all g.symbols (builtin_symbols b) s n h

pub symbol_stays : (g : Sig) (ds : List Declaration) (s : Symbol) (n : List ℕ) → find_symbol g.symbols n ≡ Some s → find_symbol (signature_from g ds).symbols n ≡ Some s
symbol_stays g [] s n h = h
symbol_stays g (d ∷ ds) s n h = symbol_stays (with_declaration g d) ds s n (behind_declaration g d s n h)

-- so pairs are held in each signature that declarations make, with what belongs to them
pub pairs_stay : (ds : List Declaration) → HoldsSymbols (signature_from pairs_alone ds).symbols pairs_alone.symbols
pairs_stay ds = (
  symbol_stays pairs_alone ds (public_symbol (codes "pair") 2) (codes "pair") refl,
  (
    symbol_stays pairs_alone ds (public_symbol (codes "fst") 1) (codes "fst") refl,
    (symbol_stays pairs_alone ds (public_symbol (codes "snd") 1) (codes "snd") refl, tt),
  ),
)

pub pairs_held : (ds : List Declaration) → arity_of (signature_from pairs_alone ds) pair_name ≡ Some 2
pairs_held ds = ap (option_map (λ (s : Symbol). s.arity)) (symbol_stays pairs_alone ds (public_symbol pair_name 2) pair_name refl)
