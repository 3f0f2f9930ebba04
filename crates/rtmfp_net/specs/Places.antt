-- Places, and the addresses by which the machine's sockets name them. A socket of IPv6 names the
-- IPv4 address a.b.c.d as ::ffff:a.b.c.d; a place is of IPv4 then, whichever socket it came through.
use Rattle.std.specs.Prelude.{◌≡◌, Bool, true, false, ℕ, List, ◌∷◌, ◌++◌, replicate, take}
use Rattle.std.specs.Net.Addr.{IsCanonicalOf, ipv4_octets, ipv6_octets, ipv6_segments, segments_of}
use Rattle.std.specs.Net.Socket.{IsPlainSocket, socket_ip, socket_port}
use Rattle.std.specs.declared.net.ip_addr.IpAddr.{IpAddr}
use Rattle.std.specs.declared.net.ip_addr.IpAddr.TheVariants.{V4, V6}
use Rattle.std.specs.declared.net.socket_addr.SocketAddr.{SocketAddr}
use Rattle.rtmfp_forms.specs.Address.{AddressParts}

-- the place of an IP address and a port
abbrev pub place_at : IpAddr → ℕ → AddressParts
place_at (V4 ip) port =
    record { v6 = false; origin = 0; host = ipv4_octets ip ++ replicate 12 0; port = port }
place_at (V6 ip) port = record { v6 = true; origin = 0; host = ipv6_octets ip; port = port }

-- the same address, of IPv4 where it is ::ffff:a.b.c.d
abbrev pub IsCanonical : IpAddr → IpAddr → Type 0
IsCanonical (V4 ip) canonical = canonical ≡ V4 ip
IsCanonical (V6 ip) canonical = IsCanonicalOf ip canonical

-- the place that a socket's address is told as
abbrev pub IsPlaceOf : SocketAddr → AddressParts → Type 0
IsPlaceOf addr place =
    (ip : IpAddr) × IsCanonical (socket_ip addr) ip × (place ≡ place_at ip (socket_port addr))

-- The host of a place as a socket names it, one of IPv6 where `wide`. A socket of IPv4 is given a host
-- of IPv6 as it is, and the system sends nothing there.
abbrev pub Names : Bool → Bool → List ℕ → IpAddr → Type 0
Names wide true host (V6 ip) = ipv6_segments ip ≡ segments_of host
Names true false host (V6 ip) =
    ipv6_segments ip ≡ 0 ∷ 0 ∷ 0 ∷ 0 ∷ 0 ∷ 0xffff ∷ segments_of (take 4 host)
Names false false host (V4 ip) = ipv4_octets ip ≡ take 4 host
Names wide v6 host ip = ⊥

-- the address by which a socket, of IPv6 where `wide`, is given a place
abbrev pub IsSocketOf : Bool → AddressParts → SocketAddr → Type 0
IsSocketOf wide place addr =
    Names wide place.v6 place.host (socket_ip addr) × IsPlainSocket addr place.port
