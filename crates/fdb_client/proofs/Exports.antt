-- The lemmas that proofs of other crates cite, and no others.
pub use Rattle.fdb_client.proofs.AnsweredLemmas.{pairs_eq_decides}
pub use Rattle.fdb_client.proofs.PagesLemmas.{given-inside}
pub use Rattle.fdb_client.proofs.ProgramLemmas.{program-push, replies-push}
pub use Rattle.fdb_client.proofs.ProgramsAgree.{programs_agree}
pub use Rattle.fdb_client.proofs.ReadSetLemmas.{in_executed_ranges, in_read_ranges}
pub use Rattle.fdb_client.proofs.UnreadableLemmas.{unreadable-decided}
pub use Rattle.fdb_client.proofs.WriteSetLemmas.{commit_request_of-names}
