use Rattle.sap_locks.specs.declared.fault.LockFault.TheVariants.{Mem as Wanting}
use Rattle.sap_read.specs.declared.fault.ReadFault.TheVariants.{Lock, Mem as OutOfMemory, NoProcess}
use Rattle.sap_where.specs.Where.{bytes_have, declarations_have, header_has, item_has, names_have, parameters_have, processes_have}
use Rattle.sap_explain.specs.Told.{HasPlace, parallels_have, reading_has, unlocks_have, words_have}
use Rattle.sap_explain.proofs.laws.causes_with_places.Goals as goal

no_memory : HasPlace OutOfMemory → ⊥
no_memory (words_have h) = elim h [ ]
no_memory (reading_has h) = h

no_process : HasPlace NoProcess → ⊥
no_process (words_have h) = elim h [ ]
no_process (reading_has h) = h

no_lock : HasPlace (Lock Wanting) → ⊥
no_lock (words_have h) = elim h [ ]
no_lock (reading_has h) = h

pub returns : goal.returns
returns c = record {
  words = λ f line x. (words_have (bytes_have f), words_have header_has, words_have (item_has line), words_have (processes_have line), words_have (names_have x), words_have (parameters_have x), words_have (declarations_have x));
  paths = λ path. (unlocks_have path, parallels_have path);
  reading = λ x path w f. (reading_has tt, reading_has tt, reading_has tt, reading_has tt, reading_has tt, reading_has tt, reading_has tt, reading_has tt);
  others = (no_memory, no_process, no_lock);
}
