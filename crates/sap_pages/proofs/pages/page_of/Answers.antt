use Rattle.sap_pages.specs.Pages.{compile, compile_inline, compile_short, why, to_rules, to_process, fill, judge, check_rules, tell, chart, to_json, from_json, sample, help}
use Rattle.sap_pages.proofs.Found.{page_is}
use Rattle.sap_pages.proofs.pages.page_of.Goals as goal

pub returns-in-compile : goal.returns-in-compile
returns-in-compile c = page_is _ _ _ c.in-compile.is compile

pub returns-in-text : goal.returns-in-text
returns-in-text c = page_is _ _ _ c.in-text.is compile_inline

pub returns-in-text-2 : goal.returns-in-text-2
returns-in-text-2 c = page_is _ _ _ c.in-text-2.is compile_short

pub returns-in-why : goal.returns-in-why
returns-in-why c = page_is _ _ _ c.in-why.is why

pub returns-in-text-3 : goal.returns-in-text-3
returns-in-text-3 c = page_is _ _ _ c.in-text-3.is to_rules

pub returns-in-text-4 : goal.returns-in-text-4
returns-in-text-4 c = page_is _ _ _ c.in-text-4.is to_process

pub returns-in-fill : goal.returns-in-fill
returns-in-fill c = page_is _ _ _ c.in-fill.is fill

pub returns-in-judge : goal.returns-in-judge
returns-in-judge c = page_is _ _ _ c.in-judge.is judge

pub returns-in-text-5 : goal.returns-in-text-5
returns-in-text-5 c = page_is _ _ _ c.in-text-5.is check_rules

pub returns-in-tell : goal.returns-in-tell
returns-in-tell c = page_is _ _ _ c.in-tell.is tell

pub returns-in-chart : goal.returns-in-chart
returns-in-chart c = page_is _ _ _ c.in-chart.is chart

pub returns-in-text-6 : goal.returns-in-text-6
returns-in-text-6 c = page_is _ _ _ c.in-text-6.is to_json

pub returns-in-text-7 : goal.returns-in-text-7
returns-in-text-7 c = page_is _ _ _ c.in-text-7.is from_json

pub returns-in-sample : goal.returns-in-sample
returns-in-sample c = page_is _ _ _ c.in-sample.is sample

pub returns-in-help : goal.returns-in-help
returns-in-help c = page_is _ _ _ c.in-help.is help
