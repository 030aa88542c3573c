-- `==` tells exactly whether two values are the same.
use Rattle.std.specs.Prelude.{◌≡◌}
use Rattle.std.proofs.Common.{ap}
use Rattle.std.specs.Bool.{Decides}
use Rattle.std.proofs.lemmas.Bool.Decides.{Decides-and, Decides-eqb}
use Rattle.fdb_keys.proofs.Exports.{items_eq_decides}
use Rattle.fdb_txn.specs.Equality.{move_eq}
use Rattle.fdb_txn.proofs.Exports.{move_eq_decides}
use Rattle.fdb_sequencer.specs.declared.dated.Dated.{Dated}
use Rattle.fdb_sequencer.specs.Equality.{dated_eq, ticket_eq}
use Rattle.fdb_sequencer.specs.declared.ticket.Ticket.{Ticket}

pub dated_eq_decides : (a b : Dated) → Decides (dated_eq a b) (a ≡ b)
dated_eq_decides a b =
    let parts = Decides-and _ _ (Decides-eqb a.version b.version)
    (items_eq_decides move_eq move_eq_decides a.moves b.moves) in (
      λ equal. let same = parts.0 equal in λ i. record { version = same.0 i; moves = same.1 i },
      λ same. parts.1 (ap (λ (one : Dated). one.version) same, ap (λ (one : Dated). one.moves) same),
    )

pub ticket_eq_decides : (a b : Ticket) → Decides (ticket_eq a b) (a ≡ b)
ticket_eq_decides a b =
    let parts =
    Decides-and _ _ (Decides-eqb a.proxy b.proxy)
    (Decides-and _ _ (Decides-eqb a.index b.index)
    (Decides-and _ _ (Decides-eqb a.version b.version)
    (Decides-and _ _ (Decides-eqb a.prev b.prev)
    (Decides-and _ _ (Decides-eqb a.horizon b.horizon)
    (Decides-and _ _ (items_eq_decides dated_eq dated_eq_decides a.moves b.moves)
    (items_eq_decides move_eq move_eq_decides a.pending b.pending))))))
    in (
      λ equal.
          let same = parts.0 equal in
          λ i. record {
            proxy = same.0 i;
            index = same.1.0 i;
            version = same.1.1.0 i;
            prev = same.1.1.1.0 i;
            horizon = same.1.1.1.1.0 i;
            moves = same.1.1.1.1.1.0 i;
            pending = same.1.1.1.1.1.1 i;
          },
      λ same.
          parts.1 (
            ap (λ (t : Ticket). t.proxy) same,
            (
              ap (λ (t : Ticket). t.index) same,
              (
                ap (λ (t : Ticket). t.version) same,
                (
                  ap (λ (t : Ticket). t.prev) same,
                  (
                    ap (λ (t : Ticket). t.horizon) same,
                    (ap (λ (t : Ticket). t.moves) same, ap (λ (t : Ticket). t.pending) same),
                  ),
                ),
              ),
            ),
          ),
    )
