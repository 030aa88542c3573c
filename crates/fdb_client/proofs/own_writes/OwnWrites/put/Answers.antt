use Rattle.std.proofs.Common.{rules}
use Rattle.fdb_client.proofs.LeftAtLemmas.{left_at-put, legal-put}
use Rattle.fdb_client.proofs.own_writes.OwnWrites.put.Goals as goal

pub returns-clause-answers : goal.returns-clause-answers
returns-clause-answers c = left_at-put c.args.self.now.keys.entries c.insert.new.self.entries c.args.self.now.cleared
    c.args.key.now c.args.left (λ x. search rules)

pub returns-clause-legal_keys : goal.returns-clause-legal_keys
returns-clause-legal_keys c = legal-put c.args.self.now.keys.entries c.insert.new.self.entries c.args.key.now
    c.args.left c.text.ensures.legal c.requires (λ x. search rules)
