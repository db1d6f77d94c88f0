-- The requests of operations to the heap, in order, and the blocks that they free. A request has
-- two sizes, the preferred one and the least one. The heap is a list of allocated blocks and an
-- end.
--     need n                              the size in units of a block for n payload bytes
--     Ask                                 a request: the block that may grow, the preferred and the least
--                                         size in units
--     block_for n, growth old item n m    the request for a new block; the request for a buffer of n items
--                                         that needs room for m
--     after_asks allocator bs end asks    the allocated blocks after all requests, if all are granted
--     NoRoom allocator bs end asks        a request isn't granted, but the requests before it are
--     FindsNoGap bs end ask, IsDenied     no free block is large enough for a request; the first such
--                                         request of a list
--     after_gives bs ats                  the allocated blocks after these were freed
--     GetsBlock allocator bytes n at      the request for n bytes gets the block of this object
use Rattle.std.specs.Prelude.{◌≡◌, ℕ, ◌+◌, ◌-◌, ◌*◌, ◌/◌, ◌<◌, max, nat_le, if◌then◌else◌, List, [], ◌∷◌, ◌++◌, length, Option, Some, None, option_and_then}
use Rattle.std.specs.List.{AllByRecursion}
use Rattle.std.specs.Option.{IfSome}
use Rattle.seg_spec.specs.Block.{block_of}
use Rattle.seg_spec.specs.Heap.{Span, live, gaps_of, room_at, Granted, same, fresh, after_give, after_request, after_request_at}

-- the size in units of a block for n payload bytes: its header and payload, and at least 2
abbrev pub need : ℕ → ℕ
need n = max 2 (1 + (n + 15) / 16)

pub record Ask : Type 0 where
  pub old : Option ℕ
  pub preferred : ℕ
  pub limit : ℕ

-- the request for a new block of u units
abbrev pub units_for : ℕ → Ask
units_for u = record { old = None; preferred = u; limit = u }

-- the request for a new block for n payload bytes
abbrev pub block_for : ℕ → Ask
block_for n = units_for (need n)

-- the request for a buffer with `count` items of `item` bytes that needs room for `wanted`
abbrev pub growth : Option ℕ → ℕ → ℕ → ℕ → Ask
growth old item count wanted = record {
  old = old;
  preferred = need (max 4 (max (2 * count) wanted) * item);
  limit = need (wanted * item);
}

-- no request if a block of `units` units has room for `wanted` items, otherwise the growth
abbrev pub growth_if_needed : ℕ → Option ℕ → ℕ → ℕ → ℕ → List Ask
growth_if_needed units old item count wanted =
    if nat_le (wanted * item) (16 * units - 16) then [] else growth old item count wanted ∷ []

-- ---- requests to a heap, given by its allocated blocks and its end

-- the result of a request, with or without a block that may grow
abbrev pub after_request_of : ℕ → List Span → ℕ → Option ℕ → ℕ → ℕ → Option Granted
after_request_of allocator bs end None preferred limit =
    after_request allocator bs end preferred limit
after_request_of allocator bs end (Some at) preferred limit =
    after_request_at allocator bs end at (room_at bs at) preferred limit

-- the result of one request
abbrev pub after_ask : ℕ → List Span → ℕ → Ask → Option Granted
after_ask allocator bs end ask = after_request_of allocator bs end ask.old ask.preferred ask.limit

-- the allocated blocks after a request
abbrev pub blocks_then : Granted → List Span
blocks_then (same bs) = bs
blocks_then (fresh at bs) = bs

-- the request for a new block of n bytes gets the block of the object at this position
abbrev pub GetsBlock : ℕ → List ℕ → ℕ → ℕ → Type 0
GetsBlock allocator bytes n at = (blocks : List Span) ×
    (after_ask allocator (live bytes) (length bytes) (block_for n)
    ≡ Some (fresh (block_of at) blocks))

-- The allocated blocks after all requests, each applied to the result of the requests before it;
-- none if a request isn't granted.
abbrev pub after_asks : ℕ → List Span → ℕ → List Ask → Option (List Span)
after_asks allocator bs end [] = Some bs
after_asks allocator bs end (ask ∷ asks) = option_and_then
    (λ g. after_asks allocator (blocks_then g) end asks) (after_ask allocator bs end ask)

abbrev pub NoRoom : ℕ → List Span → ℕ → List Ask → Type 0
NoRoom allocator bs end asks = after_asks allocator bs end asks ≡ None

-- No free block has the least size, nor does the request's old block together with the free block
-- after it.
pub record FindsNoGap (bs : List Span) (end : ℕ) (ask : Ask) : Type 0 where
  pub gaps_too_small : AllByRecursion (λ g. g.units < ask.limit) (gaps_of bs end)
  pub old_too_small : IfSome ask.old
      (λ at. room_at bs at + room_at (gaps_of bs end) (at + 16 * room_at bs at) < ask.limit)

-- the first request that isn't granted
pub record IsDenied (allocator : ℕ) (bs : List Span) (end : ℕ) (asks : List Ask) : Type 0 where
  pub before : List Ask
  pub ask : Ask
  pub after : List Ask
  pub asks_are : asks ≡ before ++ ask ∷ after
  pub blocks : List Span
  pub granted : after_asks allocator bs end before ≡ Some blocks
  pub no_gap : FindsNoGap blocks end ask

abbrev pub after_gives : List Span → List ℕ → List Span
after_gives bs [] = bs
after_gives bs (at ∷ ats) = after_gives (after_give bs at) ats
