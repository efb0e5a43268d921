-- The parts of a configuration, what they have to do with each other, and what they stand for.
use Rattle.std.specs.Prelude.{◌≡◌, ℕ, Bool, List, Option, Some, map, length, option_map, slice_get, All}
use Rattle.sap_terms.specs.Tree.{Tree}
use Rattle.sap_deduce.specs.Entries.{Entries, AreNumbered, names_given}
use Rattle.sap_share.specs.Shared.{Shared, tree_at}
use Rattle.sap_calc.specs.Running.{Running}
use Rattle.sap_lines.specs.Places.{ArePlaced, procs_of}
use Rattle.sap_sides.specs.Messages.{HoldsSmallMessages}
use Rattle.sap_sides.specs.SharedFacts.{slots_seen, AreSlotsBelow}
use Rattle.sap_sides.specs.declared.shared_fact.SharedFact.{SharedFact}
use Rattle.sap_heads.specs.Values.{IsSmallNumber}
use Rattle.sap_calc.specs.code.Threads.{all_running, IsThread}
use Rattle.sap_lines.specs.declared.place.Place.{Place}
use Rattle.sap_calc.specs.declared.thread.Thread.{Thread}

-- terms by numbers; places; threads at them; what the store has at numbers; which are held; facts with numbers; names of
-- processes, and those of the adversary; what it knows
pub record Parts : Type 0 where
  pub table : Shared
  pub places : List Place
  pub threads : List (Option Thread)
  pub store : List (ℕ × Option ℕ)
  pub held : List (ℕ × Bool)
  pub facts : List (Option SharedFact)
  pub made : List ℕ
  pub own : List ℕ
  pub known : Entries

-- a key and its value, as terms
abbrev pub entry_at : List Tree → ℕ × Option ℕ → Tree × Option Tree
entry_at ts e = (tree_at ts e.0, option_map (tree_at ts) e.1)

abbrev pub mark_at : List Tree → ℕ × Bool → Tree × Bool
mark_at ts e = (tree_at ts e.0, e.1)

-- what the parts stand for
abbrev pub seen : Parts → Running
seen p = record {
  sig = p.known.sig;
  threads = all_running p.table.trees (procs_of p.places) p.threads;
  store = map (entry_at p.table.trees) p.store;
  held = map (mark_at p.table.trees) p.held;
  facts = slots_seen p.table.trees p.facts;
  made = p.made;
  known = p.known.entries;
}

-- the value of a key is that of a small normal form, where it has one
abbrev pub IsSmallValue : Shared → Option ℕ → Type 0
IsSmallValue s o = (k : ℕ) → o ≡ Some k → IsSmallNumber s k

-- entries, places, threads, keys, values, marks and facts are over one table and one signature, and the adversary's names are
-- among its entries
pub record AreTied (p : Parts) : Type 0 where
  pub numbered : AreNumbered p.table p.known
  pub places : ArePlaced p.places
  pub threads : (t : ℕ) (th : Thread) → slice_get p.threads t ≡ Some (Some th) → IsThread p.table p.places th
  pub keys : All (λ (e : ℕ × Option ℕ). IsSmallNumber p.table e.0) p.store
  pub values : All (λ (e : ℕ × Option ℕ). IsSmallValue p.table e.1) p.store
  pub held : All (λ (e : ℕ × Bool). IsSmallNumber p.table e.0) p.held
  pub own : p.own ≡ names_given p.known.entries
  pub slots : AreSlotsBelow (length p.table.trees) p.facts
  pub facts : HoldsSmallMessages p.table.sig (slots_seen p.table.trees p.facts)
