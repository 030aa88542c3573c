mod JudgingLemmas
mod RingsLemmas
mod SumsLemmas
