-- Where threads stand: the path of each one's place, as lines lead it on.
use Rattle.std.specs.Prelude.{ℕ, List, [], ◌∷◌, ◌++◌, slice_index_or, slice_set}
use Rattle.sap_runs.specs.declared.process_step.PStep.{PStep}
use Rattle.sap_runs.specs.declared.process_step.PStep.TheVariants as line

-- the path of a thread's place
abbrev pub path_of : List (List ℕ) → ℕ → List ℕ
path_of paths t = slice_index_or paths t []

-- the thread goes on at the child of this digit
abbrev pub goes_on : List (List ℕ) → ℕ → ℕ → List (List ℕ)
goes_on paths t digit = slice_set paths t (path_of paths t ++ digit ∷ [])

-- there is a new thread, at this child of the thread's place
abbrev pub begins_at : List (List ℕ) → ℕ → ℕ → List (List ℕ)
begins_at paths t digit = (path_of paths t ++ digit ∷ []) ∷ []

-- the paths of threads by their numbers, behind a line; a thread that has ended keeps its last
abbrev pub paths_after : List (List ℕ) → PStep → List (List ℕ)
paths_after paths (line.Nil t) = paths
paths_after paths (line.Par t) = goes_on paths t 1 ++ begins_at paths t 2
paths_after paths (line.Rep t) = paths ++ begins_at paths t 1
paths_after paths (line.New t n) = goes_on paths t 1
paths_after paths (line.Out t) = goes_on paths t 1
paths_after paths (line.Send t k) = goes_on paths t 1
paths_after paths (line.In t k) = goes_on paths t 1
paths_after paths (line.Sync s t) = goes_on (goes_on paths s 1) t 1
paths_after paths (line.Then t) = goes_on paths t 1
paths_after paths (line.Else t) = goes_on paths t 2
paths_after paths (line.Event t) = goes_on paths t 1
paths_after paths (line.Insert t) = goes_on paths t 1
paths_after paths (line.Delete t) = goes_on paths t 1
paths_after paths (line.Found t) = goes_on paths t 1
paths_after paths (line.Missing t) = goes_on paths t 2
paths_after paths (line.Lock t) = goes_on paths t 1
paths_after paths (line.Unlock t) = goes_on paths t 1
paths_after paths (line.Embedded t ks b) = goes_on paths t 1
paths_after paths (line.Name n) = paths
paths_after paths (line.Public a) = paths
paths_after paths (line.Apply f ks) = paths
paths_after paths (line.Know k) = paths

-- behind these lines
abbrev pub paths_from : List (List ℕ) → List PStep → List (List ℕ)
paths_from paths [] = paths
paths_from paths (s ∷ ss) = paths_from (paths_after paths s) ss

-- behind these lines from the start on, where thread 0 stands at the root
abbrev pub thread_paths : List PStep → List (List ℕ)
thread_paths lines = paths_from ([] ∷ []) lines
