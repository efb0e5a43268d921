-- What is written shows what its expansion shows.
use Rattle.std.proofs.Common.{◌≡◌, ℕ, List, [], ◌∷◌, Option, Some}
use Rattle.sap_terms.specs.Ground.{IsGround}
use Rattle.sap_terms.specs.Trace.{Trace}
use Rattle.sap_terms.specs.Tree.{Tree}
use Rattle.sap_process.specs.Configuration.{ConfigOf, initial}
use Rattle.sap_process.specs.Proc.{Proc}
use Rattle.sap_process.specs.ProcessSteps.{ProcessRun, starts, further, IsProcessTrace}
use Rattle.sap_macro.specs.Written.{Written}
use Rattle.sap_macro.specs.WrittenRuns.{IsWrittenTrace, writing}
use Rattle.sap_macro.proofs.RunningTrees.{Setting, tree_of_written, IsReady, itself_expanded, both_go, RunAsThreads, no_more, one_more, with_trees}
use Rattle.sap_macro.proofs.WrittenSteps.{goes_forward}

module _ (S : Setting) (p : Written) (taken : List (List ℕ)) (ready : IsReady S p taken) where
  open S use {ds, g}

  -- the same run of trees
  record RunsToo (c : ConfigOf (writing ds)) (tr : Trace) : Type 0 where
    pub threads : List (Option Proc)
    pub run : ProcessRun g (initial (tree_of_written S p taken)) (with_trees S c threads) tr
    pub running : RunAsThreads S c.threads threads
    pub ground : (k v : Tree) → c.store k ≡ Some v → IsGround v

  runs_too : (c : ConfigOf (writing ds)) (tr : Trace) → ProcessRun g (initial p) c tr → RunsToo c tr
  runs_too _ _ starts =
      record { threads = Some (tree_of_written S p taken) ∷ []; run = starts; running = one_more (both_go (itself_expanded S p taken ready)) no_more; ground = λ k v e. cc }
  runs_too _ _ (further {c = c} {d = d} {tr = tr} {label = label} r i) =
      let before = runs_too c tr r in
      let later = goes_forward S c d label i before.threads before.running before.ground in
      record { threads = later.threads; run = further before.run later.step; running = later.running; ground = later.ground }

  -- each trace of what is written is one of its expansion
  pub shown_by_expansion : (tr : Trace) → IsWrittenTrace g ds p tr → IsProcessTrace g (tree_of_written S p taken) tr
  shown_by_expansion tr t = let r = runs_too t.0 tr t.1 in (with_trees S t.0 r.threads, r.run)
