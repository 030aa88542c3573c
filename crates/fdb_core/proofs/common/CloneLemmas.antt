-- A clone of a transcript's operations are those operations.
use Rattle.std.proofs.Common.{◌≡◌, ap, refl, List, rules}
use Rattle.std.specs.List.{AllZip}
use Rattle.std.proofs.lemmas.List.Elements.{same_from_all_zip}
use Rattle.fdb_client.specs.declared.program.Op.{Op}
use Rattle.fdb_client.specs.declared.program.Reply.{Reply}
use Rattle.fdb_client.specs.declared.program.Reply.TheVariants as reply
use Rattle.fdb_client.specs.contracts.program.OpClone.TheImpl as of_ops
use Rattle.fdb_client.specs.contracts.program.ReplyClone.TheImpl as of_replies

same_reply : (a b : Reply) → (of_replies.ghosts).is_clone a b → b ≡ a
same_reply (reply.Value x) (reply.Value y) copied = search rules
same_reply (reply.Pairs x) (reply.Pairs y) copied = ap reply.Pairs (same_from_all_zip _ x y copied (λ a b both.
    let key : b.0 ≡ a.0 = search rules in
    let value : b.1 ≡ a.1 = search rules in
    λ i. (key i, value i)))
same_reply reply.Done reply.Done copied = refl
same_reply a b copied = absurd copied

same_op : (a b : Op) → (of_ops.ghosts).is_clone a b → b ≡ a
same_op a b copied = search rules

pub same_ops : (ops clones : List (Op × Reply))
    → AllZip (λ a b. (of_ops.ghosts).is_clone a.0 b.0 × (of_replies.ghosts).is_clone a.1 b.1) ops clones → clones ≡ ops
same_ops ops clones copied = same_from_all_zip _ ops clones copied
    (λ a b both. let op = same_op a.0 b.0 both.0 in let reply = same_reply a.1 b.1 both.1 in λ i. (op i, reply i))
