-- Small configurations, to try by hand which have threads that are equal up to names, and which a ground store.
use Rattle.std.specs.Prelude.{ℕ, List, [], ◌∷◌, Option, Some, None}
use Rattle.sap_terms.specs.Tree.{Tree, fresh}
use Rattle.sap_terms.specs.declared.var.Sort.TheVariants.{Fresh}
use Rattle.sap_process.specs.Action.{new}
use Rattle.sap_process.specs.Configuration.{Config}
use Rattle.sap_process.specs.Proc.{Proc, nil, act}
use Rattle.sap_process.specs.StepExamples.{alone, only, just, left_fact, right_fact, showing}
use Rattle.sap_macro.specs.AlikeConfigurations.{AlikeThreads, AreAlikeConfigs}
use Rattle.sap_macro.specs.NameExamples.{x, fresh_x, fresh_y, a, new_x, new_y, gives, finds_x}
use Rattle.sap_macro.specs.UpToNames.{named}

-- new ~x; out(~x), and the same with ~y
abbrev pub gives_new_x : Option Proc
gives_new_x = Some (new_x (gives fresh_x))

abbrev pub gives_new_y : Option Proc
gives_new_y = Some (new_y (gives fresh_y))

-- out('a')
abbrev pub gives_a : Option Proc
gives_a = Some (gives a)

-- no threads; a thread that has ended and two that run; names that change sides from thread to thread
abbrev pub alike_lists : List (List (Option Proc) × List (Option Proc))
alike_lists = ([], [])
    ∷ (None ∷ gives_new_x ∷ gives_a ∷ [], None ∷ gives_new_y ∷ gives_a ∷ [])
    ∷ (gives_new_x ∷ gives_new_y ∷ [], gives_new_y ∷ gives_new_x ∷ []) ∷ []

-- a thread more on either side; one that has ended and one that has nothing left, on either side; two that change places; a first
-- and a last one that differ; and one that uses what nothing binds
abbrev pub other_lists : List (List (Option Proc) × List (Option Proc))
other_lists = (gives_a ∷ [], gives_a ∷ gives_a ∷ [])
    ∷ (gives_a ∷ None ∷ [], gives_a ∷ [])
    ∷ (None ∷ [], Some nil ∷ []) ∷ (Some nil ∷ [], None ∷ [])
    ∷ (gives_a ∷ gives_new_x ∷ [], gives_new_x ∷ gives_a ∷ [])
    ∷ (gives_a ∷ gives_a ∷ [], Some nil ∷ gives_a ∷ [])
    ∷ (gives_a ∷ gives_a ∷ [], gives_a ∷ Some nil ∷ [])
    ∷ (Some (gives x) ∷ [], Some (gives x) ∷ []) ∷ []

-- in each of these pairs the threads are alike
abbrev pub AreAllAlike : List (List (Option Proc) × List (Option Proc)) → Type 0
AreAllAlike [] = Unit {0}
AreAllAlike (e ∷ es) = AlikeThreads e.0 e.1 × AreAllAlike es

-- in none
abbrev pub AreNoneAlike : List (List (Option Proc) × List (Option Proc)) → Type 0
AreNoneAlike [] = Unit {0}
AreNoneAlike (e ∷ es) = ¬ AlikeThreads e.0 e.1 × AreNoneAlike es

-- these threads, where a process made ~4 and the adversary ~3, the store has ~4 at 'a', one fact is left, 'a' was sent, and is held
abbrev pub busy : List (Option Proc) → Config
busy ps = record {
  made = 4 ∷ [];
  own = 3 ∷ [];
  store = only a (fresh 4);
  facts = Some (left_fact a) ∷ [];
  threads = ps;
  frame = a ∷ [];
  held = just a;
}

-- with one thread: another name made, on either side; nothing stored; another fact left; nothing sent; and another term held
abbrev pub other_parts : List Config
other_parts = record (busy (gives_new_x ∷ [])) { made = 5 ∷ [] }
    ∷ record (busy (gives_new_x ∷ [])) { own = 5 ∷ [] }
    ∷ record (busy (gives_new_x ∷ [])) { store = λ k. None }
    ∷ record (busy (gives_new_x ∷ [])) { facts = Some (right_fact a) ∷ [] }
    ∷ record (busy (gives_new_x ∷ [])) { frame = [] }
    ∷ record (busy (gives_new_x ∷ [])) { held = just (fresh 4) } ∷ []

-- none of these is alike to the first
abbrev pub AreNoneAlikeTo : Config → List Config → Type 0
AreNoneAlikeTo c [] = Unit {0}
AreNoneAlikeTo c (d ∷ ds) = ¬ AreAlikeConfigs c d × AreNoneAlikeTo c ds

-- this thread alone, where the store has the term at 'a', and nothing elsewhere
abbrev pub storing : Tree → Proc → Config
storing t p = record (alone p) { store = only a t }

-- lookup 'a' as x in new ~n; event A(x), where ~n has this name
abbrev pub looking : List ℕ → Proc
looking n = finds_x (act (new (named n Fresh)) (showing x)) nil
