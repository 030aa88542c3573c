-- The limits of the system. Those of keys and of mutations stand with them.
use Rattle.std.specs.Prelude.{ℕ, ◌^◌}

-- the most bytes that a transaction has
abbrev pub size_limit : ℕ
size_limit = 10000000

-- the most places that an entry has
abbrev pub place_limit : ℕ
place_limit = 4096

-- the most entries that a book has
abbrev pub book_limit : ℕ
book_limit = 1048576

-- the window at first, and the greatest one: reads that are older than the window are no longer judged
abbrev pub window : ℕ
window = 5000000

-- the most versions from a ticket to the next
abbrev pub greatest_advance : ℕ
greatest_advance = 5000000

-- the greatest version
abbrev pub version_limit : ℕ
version_limit = 2 ^ 62

-- the most tickets that a sequencer accepts
abbrev pub ticket_limit : ℕ
ticket_limit = 2 ^ 32

-- the most moves that there are
abbrev pub move_limit : ℕ
move_limit = 65536

-- the most proxies of each kind that there are
abbrev pub proxy_limit : ℕ
proxy_limit = 16

-- the most resolvers that there are
abbrev pub resolver_limit : ℕ
resolver_limit = 64

-- the most logs that there are
abbrev pub log_limit : ℕ
log_limit = 16

-- the most tags that there are, one for each shard
abbrev pub tag_limit : ℕ
tag_limit = 64

-- the most shards that there are
abbrev pub shard_limit : ℕ
shard_limit = 64
