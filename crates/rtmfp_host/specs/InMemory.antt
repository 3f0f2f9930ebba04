-- What the links, clocks and random sources in memory hold.
use Rattle.std.specs.Prelude.{ℕ, List, drop, Option, Some, None, if◌then◌else◌}
use Rattle.rtmfp_host.specs.Plan.{Planned}
use Rattle.rtmfp_host.specs.Linking.{Line, LinkSeen}
use Rattle.rtmfp_host.specs.Ticking.{Clock}
use Rattle.rtmfp_host.specs.Drawing.{EntropySeen}
use Rattle.rtmfp_host.specs.declared.link.LinkCall.{LinkCall}
use Rattle.rtmfp_host.specs.declared.memory_link.MemoryLink.{MemoryLink}
use Rattle.rtmfp_host.specs.declared.memory_link.FaultyLink.{FaultyLink}
use Rattle.rtmfp_host.specs.declared.memory_moments.MemoryMoments.{MemoryMoments}
use Rattle.rtmfp_host.specs.declared.memory_entropy.MemoryEntropy.{MemoryEntropy}
use Rattle.rtmfp_host.specs.declared.memory_entropy.FaultyEntropy.{FaultyEntropy}

-- ---- links

-- the places that are left and the calls, as long as all calls were kept
abbrev pub link_line : MemoryLink → Option Line
link_line m =
    if m.whole then Some (record { left = drop m.at m.left.items; calls = m.calls.items })
    else None

abbrev pub link_calls : MemoryLink → Option (List LinkCall)
link_calls m = if m.whole then Some m.calls.items else None

abbrev pub link_seen : MemoryLink → LinkSeen
link_seen m = record { line = link_line m; faults = 0; losses = 0 }

abbrev pub faulty_link_line : FaultyLink → Option Line
faulty_link_line m = link_line m.link

abbrev pub faulty_link_calls : FaultyLink → Option (List LinkCall)
faulty_link_calls m = link_calls m.link

-- of the binds and receives
abbrev pub link_plan : FaultyLink → Planned
link_plan m = m.failing

-- of the sends
abbrev pub loss_plan : FaultyLink → Planned
loss_plan m = m.losing

abbrev pub link_faults : FaultyLink → ℕ
link_faults m = m.faults

abbrev pub link_losses : FaultyLink → ℕ
link_losses m = m.losses

abbrev pub faulty_link_seen : FaultyLink → LinkSeen
faulty_link_seen m = record {
  line = faulty_link_line m;
  faults = link_faults m;
  losses = link_losses m;
}

-- ---- clocks

abbrev pub moments_seen : MemoryMoments → Option Clock
moments_seen m = Some (record { left = drop m.at m.left.items; last = m.last })

-- ---- random sources

abbrev pub entropy_blocks : MemoryEntropy → Option (List (List ℕ))
entropy_blocks m = Some (drop m.at m.left.items)

abbrev pub entropy_seen : MemoryEntropy → EntropySeen
entropy_seen m = record { blocks = entropy_blocks m; faults = 0 }

abbrev pub faulty_entropy_blocks : FaultyEntropy → Option (List (List ℕ))
faulty_entropy_blocks m = entropy_blocks m.entropy

abbrev pub entropy_plan : FaultyEntropy → Planned
entropy_plan m = m.plan

abbrev pub entropy_faults : FaultyEntropy → ℕ
entropy_faults m = m.faults

abbrev pub faulty_entropy_seen : FaultyEntropy → EntropySeen
faulty_entropy_seen m = record { blocks = faulty_entropy_blocks m; faults = entropy_faults m }
