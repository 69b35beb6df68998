-- A book may cross threads.
use denote.Param.Send.{IsSend, sendable}
use Rattle.std.proofs.Crossing.{crosses}
use Rattle.row_region.specs.contracts.region.Region as Region
use Rattle.cover_pages.specs.contracts.book.CoverBook as Book

region_send : IsSend Region.the_row
region_send = search (sendable, crosses) depth 40 fits 4000

pub book_send : IsSend Book.the_row
book_send = search (sendable, crosses, region_send) depth 40 fits 4000
