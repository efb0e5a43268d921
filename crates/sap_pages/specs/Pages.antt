-- Which word has which page.
use Rattle.std.specs.Prelude.{ℕ, codes, List}
use Rattle.sap_pages.specs.Texts.{compile_page, compile_inline_page, compile_short_page, why_page, to_rules_page, to_process_page, fill_page, judge_page, check_rules_page, tell_page, chart_page, to_json_page, from_json_page, sample_page, help_page}

-- the text is the page of this word
pub data IsPageOf : List ℕ → List ℕ → Type 0 where
  compile : IsPageOf (codes "compile") compile_page
  compile_inline : IsPageOf (codes "compile-inline") compile_inline_page
  compile_short : IsPageOf (codes "compile-short") compile_short_page
  why : IsPageOf (codes "why") why_page
  to_rules : IsPageOf (codes "to-rules") to_rules_page
  to_process : IsPageOf (codes "to-process") to_process_page
  fill : IsPageOf (codes "fill") fill_page
  judge : IsPageOf (codes "judge") judge_page
  check_rules : IsPageOf (codes "check-rules") check_rules_page
  tell : IsPageOf (codes "tell") tell_page
  chart : IsPageOf (codes "chart") chart_page
  to_json : IsPageOf (codes "to-json") to_json_page
  from_json : IsPageOf (codes "from-json") from_json_page
  sample : IsPageOf (codes "sample") sample_page
  help : IsPageOf (codes "help") help_page
