-- What the sequencer's own fields say.
use Rattle.fdb_sequencer.specs.declared.sequencer_core.SequencerCore.TheInside.{Inside}
use Rattle.fdb_sequencer.specs.Sequencer.{Sequencer}

abbrev pub sequencer_of : Inside → Sequencer
sequencer_of core =
    record {
      proxies = core.proxies;
      resolvers = core.resolvers;
      accepted = core.accepted;
      last = core.last;
      committed = core.committed;
      window = core.window;
      horizon = core.horizon;
      pending = core.moves.pending;
      unlearnt = core.moves.unlearnt;
      made = core.made;
    }
